-- `fill`: a read puts the bytes that it takes from the reader behind those that came before.
use Rattle.std.specs.Io.KnownBytes.{Consumes}
use Rattle.std.specs.declared.option.Option.{Option}
use Rattle.std.proofs.Common.{◌≡◌, ℕ, ◌+◌, ◌≤◌, List, ◌++◌, None, Some, length, take}
use Rattle.std.proofs.Common.{sym, ap, ◌∙◌, append_assoc, length-take-le, arith}
use Rattle.std.proofs.Math.Seq.{take-append-add}
use Rattle.std.proofs.lemmas.List.{take-append-le}
use borrow.Rule.Slice.PartMut.{put_mid, post_of, same_len_mid}
use Rattle.report.proofs.fill.Goals as goal

-- bytes that a reader gave in two parts
given_twice : (before between after : Option (List ℕ)) (first next : List ℕ) → Consumes before between first
    → Consumes between after next → Consumes before after (first ++ next)
given_twice None between after first next a b = tt
given_twice (Some xs) None after first next a b = absurd a
given_twice (Some xs) (Some ys) None first next a b = absurd b
given_twice (Some xs) (Some ys) (Some zs) first next a b = a ∙ ap (λ t. first ++ t) b ∙ sym (append_assoc first next zs)

-- the next m bytes stand behind the n that came before them
more_came : (before between after : Option (List ℕ)) (buffer part : List ℕ) (n k m : ℕ) → n ≤ length buffer → m ≤ length part
    → Consumes before between (take n buffer) → Consumes between after (take m part)
    → Consumes before after (take (n + m) (put_mid n k buffer part))
more_came before between after buffer part n k m h g a b =
    let size : n + m ≡ length (take n buffer) + m = omega (arith, length-take-le n buffer h) in
    let front : take (n + m) (put_mid n k buffer part) ≡ take n buffer ++ take m part =
    ap {B = List ℕ} (λ i. take i (put_mid n k buffer part)) size
    ∙ take-append-add (take n buffer) (part ++ post_of n k buffer) m
    ∙ ap {B = List ℕ} (λ t. take n buffer ++ t) (take-append-le m part (post_of n k buffer) g) in
    rw front (given_twice before between after (take n buffer) (take m part) a b)

pub loop-n-preserved : goal.loop-n-preserved
loop-n-preserved g c =
    let gave = c.in_ok-more.ensures in
    let at = c.loop-n in
    let same = same_len_mid at.n _ at.buffer c.read.new.buf c.read.auto.buf in
    record {
      within = omega (arith, gave.bound, same);
      came = more_came _ _ _ at.buffer c.read.new.buf at.n _ c.in_ok-more.more (omega arith) (omega (arith, gave.bound))
          at.invariant.came
          gave.bytes.0;
    }

-- OPT's look ahead, from the trace's end to its start: what the backward pass has found when `i` references are left.
use Prim.Native.Nat.{ℕ, zero, suc, ◌+◌, ◌-◌, ◌≤◌, ◌<◌}
use Rattle.std.proofs.Common.{arith, sym, ◌∙◌, ap, take-append-drop, length-append}
use Rattle.std.specs.Prelude.{◌≡◌, take, set, replicate}
use mathlib.Core.List.{List, [], ◌∷◌, ◌++◌, append_assoc}
use Rattle.std.proofs.Math.ListN.{length, drop, get_or, length-drop, get_or-append}
use Rattle.std.proofs.Math.Seq.{take-suc, drop-cons, set_at, drop-length, length-take-le}
use Rattle.rules.specs.Limits.{references, pages, opt}
use Rattle.theory.specs.Policy.{nearness}
use Rattle.kept.specs.Nexts.{coming, coming_is, nexts, nexts_at, nexts_length}
use Rattle.count.specs.Runs.{Fit, Followable, LookAhead}
use Rattle.count.specs.RunLaws.{below_at, below_drop}

pub record Ahead (trace memory : List ℕ) (i : ℕ) (found near : List ℕ) : Type 0 where
  pub left : i ≤ length trace
  pub found_is : found ≡ take i memory ++ (nexts (drop i trace) ++ drop (length trace) memory)
  pub near_is : near ≡ coming (drop i trace)

pub ahead_start : {trace memory near : List ℕ} → near ≡ replicate pages 0 → Ahead trace memory (length trace) memory near
unfolding nexts coming
ahead_start {trace} {memory} clear =
    record {
      left = omega arith;
      found_is = rw (drop-length trace) (sym (take-append-drop (length trace) memory));
      near_is = rw (drop-length trace) clear;
    }

pub ahead_page : {trace memory : List ℕ} → LookAhead trace memory → (j : ℕ) → j < length trace
    → get_or trace j 0 < pages
ahead_page {trace} asked j h = below_at pages trace j asked.good h

-- one reference less is left
pub ahead_next : {trace memory found near : List ℕ} → LookAhead trace memory → (j i : ℕ) → i ≡ j + 1
    → Ahead trace memory i found near
    → Ahead trace memory j (set found j (get_or near (get_or trace j 0) 0)) (set near (get_or trace j 0) (length trace - j))
unfolding nexts coming
ahead_next {trace} {memory} {found} {near} asked j i one a =
    let x : ℕ = get_or trace j 0 in
    let h : j < length trace = omega (arith, one, a.left) in
    let this : i ≡ suc j = omega (arith, one) in
    let behind : List ℕ = nexts (drop (suc j) trace) ++ drop (length trace) memory in
    let is : drop j trace ≡ get_or trace j 0 ∷ drop (suc j) trace = drop-cons trace j 0 h in
    let found_is : found ≡ take (suc j) memory ++ (nexts (drop (suc j) trace) ++ drop (length trace) memory) =
    rw this at a.found_is in
    let near_is : near ≡ coming (drop (suc j) trace) = rw this at a.near_is in
    let next : get_or near (get_or trace j 0) 0 ≡ nearness (get_or trace j 0) (drop (suc j) trace) =
    rw near_is (coming_is (drop (suc j) trace) (below_drop pages (suc j) trace asked.good) x) in
    let long : length (take j memory) ≡ j = length-take-le j memory (omega (arith, h, asked.short, asked.room)) in
    let ahead : length trace - j ≡ suc (length trace - suc j) = omega (arith, h) in
    record {
      left = omega (arith, h);
      found_is =
          rw (
            next,
            found_is,
            is,
            take-suc memory j 0 (omega (arith, h, asked.short, asked.room)),
            append_assoc (take j memory) (get_or memory j 0 ∷ []) behind,
            set_at (take j memory) (get_or memory j 0) behind (nearness x (drop (suc j) trace)) j long,
          );
      near_is = rw (near_is, is, length-drop (suc j) trace, ahead);
    }

pub ahead_end : {trace memory found near : List ℕ} (i : ℕ) → i ≤ 0 → Ahead trace memory i found near
    → found ≡ nexts trace ++ drop (length trace) memory
ahead_end zero h a = a.found_is
ahead_end (suc i) h a = absurd (omega arith)

-- LRU and LFU look up nothing
pub back_followable : {trace nexts : List ℕ} {policy k t : ℕ} → Fit trace k t → policy < opt → Followable trace policy k t nexts
back_followable fit back = record { fit = fit; looks = λ i h not-lru not-lfu. absurd (not-lfu (omega (arith, not-lru))) }

-- OPT has what one pass from the trace's end has found
pub ahead_followable : (memory : List ℕ) {trace found : List ℕ} {policy k t : ℕ} → Fit trace k t
    → found ≡ nexts trace ++ drop (length trace) memory → Followable trace policy k t found
ahead_followable memory {trace} fit e =
    record {
      fit = fit;
      looks = λ i h not-lru not-lfu. record {
        near_is = rw (length-drop (suc i) trace) (omega arith);
        next_is =
            rw (e, get_or-append (nexts trace) (drop (length trace) memory) 0 i (omega (arith, nexts_length trace)))
            (nexts_at trace i h);
      };
    }

-- as many ranks stand there as before
pub ahead_length : (memory : List ℕ) {trace found : List ℕ} {k t : ℕ} → Fit trace k t → length memory ≡ references
    → found ≡ nexts trace ++ drop (length trace) memory → length found ≡ references
ahead_length memory {trace} fit room e =
    ap length e
    ∙ rw (length-append (nexts trace) (drop (length trace) memory), nexts_length trace, length-drop (length trace) memory)
    (omega (arith, fit.short))

-- Writing text into a buffer: what the buffer holds after it, and that two texts written one after the other are one text.
use Rattle.std.specs.Prelude.{ℕ, ◌+◌, ◌≤◌, ◌<◌, ◌≡◌, List, [], ◌∷◌, ◌++◌, length, get_or, take, drop, set}
use Rattle.std.proofs.Common.{sym, ap, ◌∙◌, append_assoc, zero-add, add-zero, add-one, arith, length-append}
use Rattle.std.proofs.Common.{length-drop, take-append-drop, length-take-le, take-suc, take_at, drop_at, drop-drop}
use Rattle.std.proofs.lemmas.List.{set_split}

-- the buffer with some text from a place on
unfoldable pub written : ℕ → List ℕ → List ℕ → List ℕ
written at text buffer = take at buffer ++ (text ++ drop (at + length text) buffer)

-- what a function that writes text promises: the place behind it, and the buffer
pub record Wrote (at : ℕ) (text before : List ℕ) (next : ℕ) (after : List ℕ) : Type 0 where
  pub place : next ≡ at + length text
  pub buffer : after ≡ written at text before

pub length_written : (at : ℕ) (text buffer : List ℕ) → at + length text ≤ length buffer
    → length (written at text buffer) ≡ length buffer
unfolding written
length_written at text buffer fits =
    let t : length (take at buffer) ≡ at = length-take-le at buffer (omega arith) in
    simp (length-append, length-drop) (omega arith)

-- from the front
pub written_front : (text buffer : List ℕ) → written 0 text buffer ≡ text ++ drop (length text) buffer
unfolding written
written_front text buffer = rw zero-add

pub written_nothing : (at : ℕ) (buffer : List ℕ) → written at [] buffer ≡ buffer
unfolding written
written_nothing at buffer = rw add-zero (take-append-drop at buffer)

-- one byte is a store
pub written_byte : (at b : ℕ) (buffer : List ℕ) → at < length buffer → set buffer at b ≡ written at (b ∷ []) buffer
unfolding written
written_byte at b buffer h = rw (add-one at) (set_split buffer at b h)

-- one text after the other
pub written_twice : (at : ℕ) (s t buffer : List ℕ) → at + length s ≤ length buffer
    → written (at + length s) t (written at s buffer) ≡ written at (s ++ t) buffer
unfolding written
written_twice at s t buffer fits =
    let next = at + length s in
    let begun = take at buffer ++ s in
    let rest = drop next buffer in
    let front : length begun ≡ next = simp length-append (omega (arith, length-take-le at buffer (omega arith))) in
    let cut : take at buffer ++ (s ++ rest) ≡ begun ++ rest = sym (append_assoc (take at buffer) s rest) in
    let first : take next (begun ++ rest) ≡ begun = take_at begun rest next front in
    let behind : drop (next + length t) (begun ++ rest) ≡ drop (length t) rest =
    sym (drop-drop (length t) next (begun ++ rest)) ∙ ap (drop (length t)) (drop_at begun rest next front) in
    let e : next + length t ≡ at + length (s ++ t) = omega (arith, length-append s t) in
    rw (cut, first, behind, drop-drop (length t) next buffer, e)
    (append_assoc (take at buffer) s (t ++ drop (at + length (s ++ t)) buffer)
    ∙ ap {B = List ℕ} (λ u. take at buffer ++ u) (sym (append_assoc s t (drop (at + length (s ++ t)) buffer))))

-- a text that is written byte by byte
pub written_more : (at : ℕ) (text buffer : List ℕ) (i : ℕ) → i < length text → at + length text ≤ length buffer
    → set (written at (take i text) buffer) (at + i) (get_or text i 0) ≡ written at (take (i + 1) text) buffer
written_more at text buffer i h fits =
    let l : length (take i text) ≡ i = length-take-le i text (omega arith) in
    let room : at + length (take i text) ≤ length buffer = omega arith in
    let e : at + length (take i text) ≡ at + i = omega arith in
    rw (add-one i, take-suc text i 0 h, ← e)
    (written_byte (at + length (take i text)) (get_or text i 0) (written at (take i text) buffer)
    (omega (arith, length_written at (take i text) buffer room))
    ∙ written_twice at (take i text) (get_or text i 0 ∷ []) buffer room)

-- the same for two calls
pub then : {at next last : ℕ} {s t before between after : List ℕ} → at + length s ≤ length before
    → Wrote at s before next between → Wrote next t between last after → Wrote at (s ++ t) before last after
then {at} {s = s} {t = t} {before = before} fits a b = record {
  place = omega (arith, a.place, b.place, length-append s t);
  buffer = b.buffer ∙ rw (a.buffer, a.place) (written_twice at s t before fits);
}

-- what a function that writes text from a buffer's front promises: how many bytes, the whole buffer after, and that the bytes
-- are within it
pub record Printed (text before : List ℕ) (count : ℕ) (after : List ℕ) : Type 0 where
  pub counted : count ≡ length text
  pub buffer : after ≡ text ++ drop (length text) before
  pub within : count ≤ length after
  pub part : count ≡ length (take count after)

pub printed : {text before after : List ℕ} {count : ℕ} → Wrote 0 text before count after → Printed text before count after
printed {text} {before} {after} {count} w =
    let all : after ≡ text ++ drop (length text) before = w.buffer ∙ written_front text before in
    let size : length after ≡ length text + length (drop (length text) before) =
    ap length all ∙ length-append text (drop (length text) before) in
    let n : count ≡ length text = w.place ∙ zero-add (length text) in
    let fits : count ≤ length after = omega arith in
    record { counted = n; buffer = all; within = fits; part = sym (length-take-le count after fits) }

-- two answers that both meet the promise are equal, and so are the buffers they leave
pub printed_once : {text before x y : List ℕ} {m n : ℕ} → Printed text before m x → Printed text before n y → (m ≡ n) × (x ≡ y)
printed_once p q = (p.counted ∙ sym q.counted, p.buffer ∙ sym q.buffer)

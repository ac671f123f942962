-- For whoever drives a session through the exported calls: what an accepted start leaves passes the tests of the other
-- calls, and so does what each of them leaves. What crate session proves of every memory that a start and calls gave says
-- it for these.
use Rattle.std.specs.Prelude.{ℕ, suc, ◌<◌, Bool, true, false, not, ◌&&◌, ◌≡◌, refl, List, [], leb, length, Ok, Err}
use Rattle.std.proofs.Common.{arith, sym, ◌∙◌, ap}
use Rattle.rules.specs.Limits.{capacities, references, pages, opt, is_capacity}
use Rattle.rules.specs.Cases.{by_cases}
use Rattle.rules.specs.Refusals.{Answer, accepted, unsound, number_of}
use Rattle.rules.specs.Told.{Told, tested_told}
use Rattle.session.specs.declared.Session.{Session}
use Rattle.session.specs.History.{start_answer, reference_answer, capacity_answer}
use Rattle.session.specs.Lent.{Lent}
use Rattle.session.specs.Memory.{Given}
use Rattle.session.specs.AnyMemory.{depth_in, after_reference, hits_in, misses_in}
use Rattle.session.specs.Tests.{fits, countable, sound}
use Rattle.session.specs.StartLaws.{start_begun, start_gives}
use Rattle.session.specs.TestLaws.{value_fits, value_countable, fits_after}
use Rattle.session.proofs.SoundLaws.{given_sound, sound_countable, countable_fits}
use Rattle.session.proofs.CountableLaws.{countable_after}
use Rattle.exports.specs.Session.{start_lent, StartTold, ReferTold, HitsTold, MissesTold}
use Rattle.exports.specs.Told.{told_with}

-- the tests of all calls
pub record Passes (m : Lent) : Type 0 where
  pub numbers : fits m.value ≡ true
  pub depths : countable m.value m.depths ≡ true
  pub whole : sound m ≡ true

pub given_passes : {policy k : ℕ} {calls : List ℕ} {m : Lent} → Given policy k calls m → Passes m
given_passes g =
    record { numbers = value_fits g.value; depths = value_countable g.value g.tallied; whole = given_sound g }

-- what is sound passes the tests of all calls
pub sound_passes : (m : Lent) → sound m ≡ true → Passes m
sound_passes m e =
    let adds = sound_countable m e in
    record { numbers = (countable_fits m.value m.depths adds).0; depths = adds; whole = e }

-- no refusal of a start has number 0
not_refused : (policy k : ℕ) → number_of (start_answer policy k) ≡ 0 → start_answer policy k ≡ accepted
not_refused policy k none =
    by_cases (leb opt policy) (λ bad. absurd (omega (arith, rw bad at none)))
    (λ good.
    by_cases (not (is_capacity k)) (λ bad. absurd (omega (arith, rw (good, bad) at none)))
    (λ within. rw (good, within)))

module _ {policy k : ℕ} {before after : Lent} (p : StartTold policy k before after 0) where
  pub start_given : Given policy k [] after
  start_given =
      let taken = not_refused policy k (sym p.answered) in
      let left : after ≡ start_lent policy k = p.memory ∙ rw taken in
      rw left (start_gives {places = []} {depths = []} {counts = []} (start_begun taken) taken)

  pub start_passes : Passes after
  start_passes = given_passes start_given

module _ {before after : Lent} {page : ℕ} {answer : Told} (p : ReferTold before page after answer) where
  -- whether the reference is accepted or refused
  pub refer_passes : {policy k : ℕ} {calls : List ℕ} → Given policy k calls before → Passes after
  refer_passes {policy} {k} {calls} g = given_passes (p.next policy k calls g)

  -- and in any memory: what a reference, a list and the references are told of is told again
  pub refer_fits : fits before.value ≡ true → fits after.value ≡ true
  refer_fits passed =
      let left : after ≡ after_reference before page = p.memory ∙ rw passed in
      rw left (fits_after before page passed)

  -- and what hits and misses are told of; the table of depths has its 65 places
  pub refer_countable : length before.depths ≡ suc capacities → countable before.value before.depths ≡ true
      → countable after.value after.depths ≡ true
  refer_countable long passed =
      let numbers = (countable_fits before.value before.depths passed).0 in
      let left : after ≡ after_reference before page = p.memory ∙ rw numbers in
      rw left (countable_after before page long passed)

-- R40: exactly where the test fails. No number that a session gives is 40
small_told : (answer : Answer) (n : ℕ) → number_of answer < unsound → (told_with answer n).number < unsound
small_told (Ok u) n small = small
small_told (Err r) n small = small

tested_40 : (passes : Bool) (a : Answer) (n : ℕ) {t : Told} → t ≡ tested_told passes (told_with a n) → number_of a < unsound →
    t.number ≡ unsound → passes ≡ false
tested_40 true a n is small forty = absurd (omega (arith, ap (λ (x : Told). x.number) is, small_told a n small))
tested_40 false a n is small forty = refl

reference_small : (accepted page : ℕ) → number_of (reference_answer accepted page) < unsound
reference_small accepted page =
    by_cases (leb references accepted) (λ e. rw e (omega arith))
    (λ e. by_cases (leb pages page) (λ f. rw (e, f) (omega arith)) (λ f. rw (e, f) (omega arith)))

capacity_small : (k c : ℕ) → number_of (capacity_answer k c) < unsound
capacity_small k c =
    by_cases (not (leb 1 c && leb c k)) (λ e. rw e (omega arith)) (λ e. rw e (omega arith))

module _ {before after : Lent} {page : ℕ} {t : Told} (p : ReferTold before page after t) where
  pub refer_40 : t.number ≡ unsound → fits before.value ≡ false
  refer_40 =
      tested_40 (fits before.value) (reference_answer before.value.references page) (depth_in before page) p.answered
      (reference_small before.value.references page)

  pub refer_40_only : fits before.value ≡ false → (t.number ≡ unsound) × (after ≡ before)
  refer_40_only fails = (ap (λ (x : Told). x.number) p.answered ∙ rw fails, p.memory ∙ rw fails)

module _ {s : Session} {depths : List ℕ} {c : ℕ} {t : Told} where
  pub hits_40 : HitsTold s depths c t → t.number ≡ unsound → countable s depths ≡ false
  hits_40 p =
      tested_40 (countable s depths) (capacity_answer s.k c) (hits_in depths c) p.answered (capacity_small s.k c)

  pub misses_40 : MissesTold s depths c t → t.number ≡ unsound → countable s depths ≡ false
  misses_40 p =
      tested_40 (countable s depths) (capacity_answer s.k c) (misses_in s depths c) p.answered (capacity_small s.k c)

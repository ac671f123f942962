-- Frames that leave the row together (docs/RULES.md, B2; definitions: Banks, Gated): what that makes of states and slots, and
-- that what leaves in two goes leaves in one.
use Rattle.std.specs.Prelude.{ℕ, suc, ◌<◌, ◌≤◌, ◌≡◌, refl, Bool, true, cond, ◌||◌, List, [], ◌∷◌, eqb, length, set}
use Rattle.std.proofs.Common.{arith, sym, ◌∙◌, ap, length-set, ext_get_or, get_or-set_same, get_or-set_other, eqb-true, eq-eqb}
use Rattle.std.proofs.lemmas.Bool.{eqb-false}
use Rattle.rules.specs.Limits.{frames}
use Rattle.rules.specs.Lists.{times}
use Rattle.rules.specs.Cases.{by_cases}
use Rattle.rules.specs.TableLaws.{values_length, values_at}
use Rattle.row_theory.specs.States.{absent, state_of, held_in}
use Rattle.row_theory.specs.Slots.{empty, emptied}
use Rattle.row_theory.specs.Row.{Row}
use Rattle.bank_theory.specs.Banks.{states_without}
use Rattle.bank_theory.specs.Gated.{slots_without, row_without}

-- what stands in a list of states, one for each frame, with some of them absent
pub length_without_states : (leaves : ℕ → Bool) (states : List ℕ) → length (states_without leaves states) ≡ frames
unfolding states_without
length_without_states leaves states = values_length (λ frame. cond (leaves frame) absent (state_of states frame)) 0 frames

pub state_without : (leaves : ℕ → Bool) (states : List ℕ) (frame : ℕ) → frame < frames →
    state_of (states_without leaves states) frame ≡ cond (leaves frame) absent (state_of states frame)
unfolding states_without
state_without leaves states frame small =
    values_at (λ f. cond (leaves f) absent (state_of states f)) 0 frames frame small ∙
    ap (λ (f : ℕ). cond (leaves f) absent (state_of states f)) (omega arith)

-- lists of states that agree at every frame are one list
same_states_law : (states other : List ℕ) → length states ≡ frames → length other ≡ frames →
    ((frame : ℕ) → frame < frames → state_of states frame ≡ state_of other frame) → states ≡ other
same_states_law states other long also agree =
    ext_get_or absent states other (long ∙ sym also) (λ frame inside. agree frame (omega arith))

-- tests that agree let the same frames leave
pub without_same : (leaves also : ℕ → Bool) (row : Row) → ((frame : ℕ) → leaves frame ≡ also frame) →
    row_without leaves row ≡ row_without also row
without_same leaves also row agree = λ i. row_without (λ frame. agree frame i) row

-- what leaves in two goes leaves in one
slots_twice : (leaves also : ℕ → Bool) (slots : List ℕ) →
    slots_without also (slots_without leaves slots) ≡ slots_without (λ frame. leaves frame || also frame) slots
unfolding slots_without
slots_twice leaves also [] = refl
slots_twice leaves also (x ∷ slots) =
    by_cases (leaves x)
    (λ e. rw e (by_cases (also empty) (λ t. rw t (ap (λ (l : List ℕ). empty ∷ l) (slots_twice leaves also slots)))
    (λ t. rw t (ap (λ (l : List ℕ). empty ∷ l) (slots_twice leaves also slots)))))
    (λ e. rw e (ap (λ (l : List ℕ). cond (also x) empty x ∷ l) (slots_twice leaves also slots)))

states_twice : (leaves also : ℕ → Bool) (states : List ℕ) →
    states_without also (states_without leaves states) ≡ states_without (λ frame. leaves frame || also frame) states
states_twice leaves also states =
    let both : ℕ → Bool = λ frame. leaves frame || also frame in
    same_states_law (states_without also (states_without leaves states)) (states_without both states)
    (length_without_states also (states_without leaves states)) (length_without_states both states)
    (λ frame small.
    rw (
      state_without also (states_without leaves states) frame small,
      state_without leaves states frame small,
      state_without both states frame small,
    )
    (by_cases (leaves frame) (λ e. rw e (by_cases (also frame) (λ t. rw t) (λ t. rw t))) (λ e. rw e)))

pub without_twice : (leaves also : ℕ → Bool) (row : Row) →
    row_without also (row_without leaves row) ≡ row_without (λ frame. leaves frame || also frame) row
unfolding row_without
without_twice leaves also row =
    let slots = slots_twice leaves also row.slots in
    let states = states_twice leaves also row.states in
    λ i. record { slots = slots i; states = states i; front = row.front; held = held_in (states i) }

-- a frame that stands in no slot, and one that stands in one
pub slots_untouched : (leaves : ℕ → Bool) (slots : List ℕ) → ((frame : ℕ) → leaves frame ≡ true → times frame slots ≡ 0) →
    slots_without leaves slots ≡ slots
unfolding slots_without times
slots_untouched leaves [] none = refl
slots_untouched leaves (x ∷ slots) none =
    by_cases (leaves x)
    (λ e. let some : cond (eqb x x) (suc (times x slots)) (times x slots) ≡ 0 = none x e in
    absurd (omega (arith, rw (eq-eqb x x refl) at some)))
    (λ e. rw e (ap (λ (l : List ℕ). x ∷ l) (slots_untouched leaves slots
    (λ frame t. by_cases (eqb x frame)
    (λ same. absurd (omega (arith, rw same at (none frame t))))
    (λ other. rw other at (none frame t))))))

-- this frame alone
abbrev pub only : ℕ → ℕ → Bool
only frame x = eqb x frame

pub emptied_once : (frame : ℕ) (slots : List ℕ) → times frame slots ≤ 1 → emptied frame slots ≡ slots_without (only frame) slots
unfolding emptied slots_without times
emptied_once frame [] once = refl
emptied_once frame (x ∷ slots) once =
    by_cases (eqb x frame)
    (λ e. rw e (ap (λ (l : List ℕ). empty ∷ l) (sym (slots_untouched (only frame) slots
    (λ other t. let same : other ≡ frame = eqb-true other frame t in
    let more : suc (times frame slots) ≤ 1 = rw e at once in
    rw same (omega arith))))))
    (λ e. rw e (ap (λ (l : List ℕ). x ∷ l) (emptied_once frame slots (rw e at once))))

-- one state stored is one frame gone
pub state_gone : (states : List ℕ) (frame : ℕ) → length states ≡ frames → frame < frames →
    set states frame absent ≡ states_without (only frame) states
state_gone states frame long small =
    same_states_law (set states frame absent) (states_without (only frame) states) (length-set states frame absent ∙ long)
    (length_without_states (only frame) states)
    (λ other inside. rw (state_without (only frame) states other inside)
    (by_cases (eqb other frame)
    (λ e. rw (e, eqb-true other frame e) (get_or-set_same states frame absent absent (omega arith)))
    (λ e. rw e (get_or-set_other states frame other absent absent (eqb-false other frame e)))))

-- frames that are absent already change no state
pub states_untouched : (leaves : ℕ → Bool) (states : List ℕ) → length states ≡ frames →
    ((frame : ℕ) → leaves frame ≡ true → state_of states frame ≡ absent) → states_without leaves states ≡ states
states_untouched leaves states long gone =
    same_states_law (states_without leaves states) states (length_without_states leaves states) long
    (λ frame small. rw (state_without leaves states frame small)
    (by_cases (leaves frame) (λ e. rw e (sym (gone frame e))) (λ e. rw e)))

-- The states of frames after any calls (docs/RULES.md, W6, L5): one for each frame, each of the three, at most 32 frames held.
use Rattle.std.specs.Prelude.{ℕ, zero, suc, ◌+◌, ◌<◌, ◌≤◌, ◌≡◌, refl, true, false, List, [], ◌∷◌, eqb, length, get_or, set}
use Rattle.std.specs.Prelude.{replicate, Ok}
use Rattle.std.proofs.Common.{zero-le, arith, sym, ◌∙◌, ap, length-set, get_or-set_same, get_or-set_other, eqb-true}
use Rattle.std.proofs.lemmas.List.{length-replicate}
use Rattle.std.proofs.lemmas.Bool.{eqb-false}
use Rattle.rules.specs.Limits.{frames, held}
use Rattle.rules.specs.Cases.{by_cases}
use Rattle.row_theory.specs.States.{Call, absent, busy, table_at, state_of, held_bit, held_in, is_put, accepts, states_then}
use Rattle.row_theory.specs.States.{fresh_states}
use Rattle.row_theory.specs.History.{states_after}
use Rattle.row_theory.specs.StateLaws.{Effect, effect, busy_stays, accepted, rejected, held_in_set, bit_before, bit_later}
use Rattle.row_theory.specs.declared.Event.{Event}
use Rattle.row_theory.specs.declared.Event.TheVariants.{Put, Touch, Start, End, Drop}

-- the states after any calls: one for each frame, each of the three, and at most 32 frames held
pub record GoodStates (states : List ℕ) : Type 0 where
  pub long : length states ≡ frames
  pub known : (frame : ℕ) → state_of states frame ≤ busy
  pub few : held_in states ≤ held

get_d_absent : (n i : ℕ) → get_or (replicate n absent) i absent ≡ absent
get_d_absent zero i = refl
get_d_absent (suc n) zero = refl
get_d_absent (suc n) (suc i) = get_d_absent n i

held_in_absent : (n : ℕ) → held_in (replicate n absent) ≡ 0
unfolding held_in held_bit
held_in_absent zero = refl
held_in_absent (suc n) = omega (arith, held_in_absent n)

pub states_refused : (states : List ℕ) (call : Call) → accepts states call ≡ false → states_then states call ≡ states
unfolding states_then
states_refused states call e = rw (rejected states call e).is

-- an accepted call stores the next state at its frame
module _ (states : List ℕ) (call : Call) (good : GoodStates states) (ok : accepts states call ≡ true) where
  abbrev next : ℕ
  next = (accepted states call ok).state

  inside : call.frame < length states
  inside = omega (arith, (accepted states call ok).small, good.long)

  stored : states_then states call ≡ set states call.frame next
  unfolding states_then
  stored = rw (accepted states call ok).next

  pub state_same : state_of (states_then states call) call.frame ≡ next
  state_same = rw stored (get_or-set_same states call.frame next absent inside)

  pub state_other : (frame : ℕ) → (frame ≡ call.frame → ⊥) → state_of (states_then states call) frame ≡ state_of states frame
  state_other frame ne = rw stored (get_or-set_other states call.frame frame next absent ne)

  -- what it does to the held bit of its frame, and to the number held
  pub call_effect : Effect (bit_before call.event) (bit_later call.event) (state_of states call.frame) next
  call_effect = effect call.event (state_of states call.frame) (good.known call.frame) (accepted states call ok).allowed

  pub held_then : held_in (states_then states call) + bit_before call.event ≡ held_in states + bit_later call.event
  held_then =
      let bits = held_in_set states call.frame next inside in
      rw stored (omega (arith, bits, call_effect.was, call_effect.becomes))

  known_then : (frame : ℕ) → state_of (states_then states call) frame ≤ busy
  known_then frame =
      by_cases (eqb frame call.frame)
      (λ e. rw (eqb-true frame call.frame e, state_same) (accepted states call ok).known)
      (λ e. rw (state_other frame (eqb-false frame call.frame e)) (good.known frame))

  -- D1: a busy frame is not absent after it
  busy_then : (frame : ℕ) → state_of states frame ≡ busy → state_of (states_then states call) frame ≡ absent → ⊥
  busy_then frame is_busy gone =
      by_cases (eqb frame call.frame)
      (λ e. let same : frame ≡ call.frame = eqb-true frame call.frame e in
      let here : state_of states call.frame ≡ busy = rw same at is_busy in
      let left : next ≡ absent = sym state_same ∙ rw same at gone in
      busy_stays call.event (ap (λ (s : ℕ). table_at s call.event) (sym here) ∙ (accepted states call ok).allowed ∙ ap Ok left))
      (λ e. omega (arith, state_other frame (eqb-false frame call.frame e)))

few_then : (states : List ℕ) (event : Event) (n : ℕ) → held_in states ≤ held → (is_put event ≡ true → held_in states < held) →
    n + bit_before event ≡ held_in states + bit_later event → n ≤ held
few_then states Put n few room e = omega (arith, room refl)
few_then states Touch n few room e = omega arith
few_then states Start n few room e = omega arith
few_then states End n few room e = omega arith
few_then states Drop n few room e = omega arith

pub good_then : (states : List ℕ) (call : Call) → GoodStates states → GoodStates (states_then states call)
good_then states call good =
    by_cases (accepts states call)
    (λ ok. record {
      long = rw (stored states call good ok) (simp length-set good.long);
      known = known_then states call good ok;
      few = few_then states call.event (held_in (states_then states call)) good.few (accepted states call ok).room
          (held_then states call good ok);
    })
    (λ e. rw (states_refused states call e) good)

-- D1: whatever the call, a busy frame is not absent after it
pub busy_held : (states : List ℕ) (call : Call) → GoodStates states → (frame : ℕ) → state_of states frame ≡ busy →
    state_of (states_then states call) frame ≡ absent → ⊥
busy_held states call good frame is_busy gone =
    by_cases (accepts states call) (λ ok. busy_then states call good ok frame is_busy gone)
    (λ e. omega (arith, ap (λ (l : List ℕ). state_of l frame) (states_refused states call e)))

pub good_fresh : GoodStates fresh_states
good_fresh =
    record {
      long = length-replicate frames absent;
      known = λ f. rw (get_d_absent frames f) zero-le;
      few = rw (held_in_absent frames) zero-le;
    }

pub good_after : (history : List Call) → GoodStates (states_after history)
unfolding states_after
good_after [] = good_fresh
good_after (call ∷ history) = good_then (states_after history) call (good_after history)

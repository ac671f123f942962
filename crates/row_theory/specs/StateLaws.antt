-- Laws of the state table and of the list of states (definitions: States). The table's rule is proved once, over all of its
-- fifteen entries.
use Rattle.std.specs.Prelude.{ℕ, zero, suc, ◌+◌, ◌<◌, ◌≤◌, ◌≡◌, refl, Bool, true, false, ◌&&◌, List, [], ◌∷◌, leb, eqb}
use Rattle.std.specs.Prelude.{length, get_or, set, Result, Ok, Err, is_ok, IfOk, IfErr, MatchResult}
use Rattle.std.proofs.lemmas.Result.{IfOk-at_ok, MatchResult-at_ok}
use Rattle.std.proofs.Common.{zero-le, not-suc-le-zero, le_of_suc-le-suc, arith, leb-false}
use Rattle.rules.specs.Limits.{frames, held}
use Rattle.rules.specs.Refusals.{number_of, refusal_number, refusal_place}
use Rattle.rules.specs.declared.refusal.Refusal.{Refusal}
use Rattle.rules.specs.declared.refusal.Refusal.TheVariants.{BadFrame, RowFull}
use Rattle.rules.specs.Cases.{by_cases, clash}
use Rattle.rules.specs.AnswerLaws.{not_accepted, in_order, passed}
use Rattle.row_theory.specs.States.{Call, absent, idle, busy, table_at, cell_of, held_bit, held_in, rule_of, is_put, verdict_of}
use Rattle.row_theory.specs.States.{accepts, state_of}
use Rattle.row_theory.specs.declared.Event.{Event}
use Rattle.row_theory.specs.declared.Event.TheVariants.{Put, Touch, Start, End, Drop}

-- a fact about each of the three states
pub each_state_law : (P : ℕ → Type 0) → P absent → P idle → P busy → (state : ℕ) → state ≤ busy → P state
each_state_law P a i b zero h = a
each_state_law P a i b (suc zero) h = i
each_state_law P a i b (suc (suc zero)) h = b
each_state_law P a i b (suc (suc (suc n))) h = absurd (not-suc-le-zero (le_of_suc-le-suc (le_of_suc-le-suc h)))

-- W6: the table says what the refusals' own words say, at all of its fifteen entries
abbrev RuleAt : Event → ℕ → Type 0
RuleAt event s = table_at s event ≡ rule_of s event

pub table_rule : (event : Event) (state : ℕ) → state ≤ busy → table_at state event ≡ rule_of state event
unfolding table_at rule_of
table_rule Put = each_state_law (RuleAt Put) refl refl refl
table_rule Touch = each_state_law (RuleAt Touch) refl refl refl
table_rule Start = each_state_law (RuleAt Start) refl refl refl
table_rule End = each_state_law (RuleAt End) refl refl refl
table_rule Drop = each_state_law (RuleAt Drop) refl refl refl

-- what an accepted event needs of its frame's state, and makes of it: held before, held after
pub record Effect (before later : ℕ) (state next : ℕ) : Type 0 where
  pub was : held_bit state ≡ before
  pub becomes : held_bit next ≡ later

-- the held bits that an accepted event goes from and to
abbrev pub bit_before : Event → ℕ
bit_before Put = 0
bit_before Touch = 1
bit_before Start = 1
bit_before End = 1
bit_before Drop = 1

abbrev pub bit_later : Event → ℕ
bit_later Put = 1
bit_later Touch = 1
bit_later Start = 1
bit_later End = 1
bit_later Drop = 0

-- what the table says of an event in a state, where it lets it through
abbrev EffectAt : Event → ℕ → Type 0
EffectAt event s = IfOk (table_at s event) (Effect (bit_before event) (bit_later event) s)

effects : (event : Event) (state : ℕ) → state ≤ busy → EffectAt event state
unfolding table_at held_bit
effects Put = each_state_law (EffectAt Put) (record { was = refl; becomes = refl }) tt tt
effects Touch =
    each_state_law (EffectAt Touch) tt (record { was = refl; becomes = refl }) (record { was = refl; becomes = refl })
effects Start = each_state_law (EffectAt Start) tt (record { was = refl; becomes = refl }) tt
effects End = each_state_law (EffectAt End) tt tt (record { was = refl; becomes = refl })
effects Drop = each_state_law (EffectAt Drop) tt (record { was = refl; becomes = refl }) tt

pub effect : (event : Event) (state : ℕ) {next : ℕ} → state ≤ busy → table_at state event ≡ Ok next →
    Effect (bit_before event) (bit_later event) state next
effect event state known is = IfOk-at_ok (Effect (bit_before event) (bit_later event) state) is (effects event state known)

-- of an absent frame the table lets only a put through, and a put of no other
abbrev PutAt : Event → ℕ → Type 0
PutAt event s = IfOk (table_at s event) (λ next. is_put event ≡ eqb s absent)

puts : (event : Event) (state : ℕ) → state ≤ busy → PutAt event state
unfolding table_at
puts Put = each_state_law (PutAt Put) refl tt tt
puts Touch = each_state_law (PutAt Touch) tt refl refl
puts Start = each_state_law (PutAt Start) tt refl tt
puts End = each_state_law (PutAt End) tt tt refl
puts Drop = each_state_law (PutAt Drop) tt refl tt

pub put_absent : (event : Event) (state : ℕ) {next : ℕ} → state ≤ busy → table_at state event ≡ Ok next →
    is_put event ≡ eqb state absent
put_absent event state known is = IfOk-at_ok (λ next. is_put event ≡ eqb state absent) is (puts event state known)

-- an entry is one of the three states, or a refusal that has no place
abbrev EntryAt : Event → ℕ → Type 0
EntryAt event s = MatchResult (table_at s event) (λ next. next ≤ busy) (λ r. refusal_place r ≡ 0)

entries : (event : Event) (state : ℕ) → EntryAt event state
unfolding table_at
entries Put zero = omega arith
entries Put (suc zero) = refl
entries Put (suc (suc zero)) = refl
entries Put (suc (suc (suc n))) = zero-le
entries Touch zero = refl
entries Touch (suc zero) = omega arith
entries Touch (suc (suc zero)) = omega arith
entries Touch (suc (suc (suc n))) = zero-le
entries Start zero = refl
entries Start (suc zero) = omega arith
entries Start (suc (suc zero)) = refl
entries Start (suc (suc (suc n))) = zero-le
entries End zero = refl
entries End (suc zero) = refl
entries End (suc (suc zero)) = omega arith
entries End (suc (suc (suc n))) = zero-le
entries Drop zero = refl
entries Drop (suc zero) = zero-le
entries Drop (suc (suc zero)) = refl
entries Drop (suc (suc (suc n))) = zero-le

-- D1: no event makes a busy frame absent
pub busy_stays : (event : Event) → table_at busy event ≡ Ok absent → ⊥
unfolding table_at
busy_stays Put e = not_accepted e
busy_stays Touch e = let z : ◌≡◌ {A = ℕ} busy absent = cc in absurd (omega arith)
busy_stays Start e = not_accepted e
busy_stays End e = let z : ◌≡◌ {A = ℕ} idle absent = cc in absurd (omega arith)
busy_stays Drop e = not_accepted e

-- what acceptance says
pub record Acceptance (states : List ℕ) (call : Call) : Type 0 where
  pub small : call.frame < frames
  pub state : ℕ
  pub next : verdict_of states call ≡ Ok state
  pub allowed : cell_of states call ≡ Ok state
  pub known : state ≤ busy
  pub room : is_put call.event ≡ true → held_in states < held

pub accepted : (states : List ℕ) (call : Call) → accepts states call ≡ true → Acceptance states call
unfolding accepts verdict_of
accepted states call e =
    let full = is_put call.event && leb held (held_in states) in
    let tests = passed (leb frames call.frame) BadFrame full RowFull (cell_of states call) e in
    record {
      small = leb-false frames call.frame tests.small;
      state = tests.state;
      next = tests.verdict;
      allowed = tests.allowed;
      known =
          MatchResult-at_ok (λ next. next ≤ busy) (λ r. refusal_place r ≡ 0) tests.state tests.allowed
          (entries call.event (state_of states call.frame));
      room = λ put. leb-false held (held_in states) (rw put at tests.calm);
    }

-- and what refusal says
pub record Rejection (states : List ℕ) (call : Call) : Type 0 where
  pub reason : Refusal
  pub is : verdict_of states call ≡ Err reason

rejected_as : (v : Result ℕ Refusal) → is_ok v ≡ false → (r : Refusal) × (v ≡ Err r)
rejected_as (Ok state) e = clash refl e
rejected_as (Err r) e = (r, refl)

pub rejected : (states : List ℕ) (call : Call) → accepts states call ≡ false → Rejection states call
unfolding accepts
rejected states call e =
    let found = rejected_as (verdict_of states call) e in
    record { reason = found.0; is = found.1 }

-- A1: a refused call has no place
placeless : (past full : Bool) (cell : Result ℕ Refusal) → MatchResult cell (λ s. s ≤ busy) (λ r. refusal_place r ≡ 0) →
    IfErr (in_order past BadFrame full RowFull cell) (λ r. refusal_place r ≡ 0)
placeless true full cell h = refl
placeless false full (Err r) h = h
placeless false true (Ok state) h = refl
placeless false false (Ok state) h = tt

pub verdict_placeless : (states : List ℕ) (call : Call) → IfErr (verdict_of states call) (λ r. refusal_place r ≡ 0)
unfolding verdict_of
verdict_placeless states call =
    placeless (leb frames call.frame) (is_put call.event && leb held (held_in states)) (cell_of states call)
    (entries call.event (state_of states call.frame))

-- A1: no refusal's number is 0, which stands for "no refusal"
refusal_some : (r : Refusal) → eqb (refusal_number r) 0 ≡ false
refusal_some r = grind arith

pub number_ok : {A : Type 0} (v : Result A Refusal) → eqb (number_of v) 0 ≡ is_ok v
number_ok (Ok a) = refl
number_ok (Err r) = refusal_some r

pub held_bit_absent : held_bit absent ≡ 0
unfolding held_bit
held_bit_absent = refl

pub held_bit_small : (state : ℕ) → held_bit state ≤ 1
unfolding held_bit
held_bit_small state = by_cases (eqb state absent) (λ e. rw e (omega arith)) (λ e. rw e (omega arith))

-- storing a state changes the number held by the two held bits
pub held_in_set : (states : List ℕ) (i next : ℕ) → i < length states →
    held_in (set states i next) + held_bit (get_or states i 0) ≡ held_in states + held_bit next
unfolding held_in
held_in_set [] i next h = absurd (not-suc-le-zero h)
held_in_set (s ∷ states) zero next h = omega arith
held_in_set (s ∷ states) (suc i) next h = omega (arith, held_in_set states i next (le_of_suc-le-suc h))

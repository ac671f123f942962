-- The steps of a bank call on lent memory: a bank's part of the states and of the gates, and its frames leaving one by one.
use Rattle.std.specs.Prelude.{ℕ, zero, suc, ◌+◌, ◌<◌, ◌≤◌, ◌≡◌, refl, false, List, leb, ltb, eqb, length, get_or, take, drop}
use Rattle.std.specs.Prelude.{replicate, Result}
use Rattle.std.specs.List.{list_any}
use borrow.Rule.Slice.PartMut.{mid_of, put_mid}
use Rattle.std.proofs.lemmas.List.{places}
use Rattle.std.proofs.Common.{arith, sym, ◌∙◌, ap, drop-cons}
use Rattle.std.proofs.Common.{eqb-true, leb-true, leb-false, ltb-true, ltb-false}
use Rattle.std.proofs.lemmas.Bool.{eqb-false, lt-leb}
use Rattle.rules.specs.Limits.{frames, bank_frames}
use Rattle.rules.specs.Cases.{by_cases}
use Rattle.row_theory.specs.States.{absent, idle, busy, state_of, table_at, verdict_of, accepts}
use Rattle.row_theory.specs.Row.{Row, after}
use Rattle.row_theory.specs.Promise.{Memory, row_in, Stands, asked, Answered}
use Rattle.row_theory.proofs.PromiseLaws.{ordered}
use Rattle.row_theory.proofs.SoundRow.{after_refused}
use Rattle.row_theory.specs.declared.Event.TheVariants.{Drop}
use Rattle.rules.specs.declared.refusal.Refusal.{Refusal}
use Rattle.bank_theory.specs.Banks.{busy_from}
use Rattle.bank_theory.specs.BankLending.{dropping, DroppedOne, Dropped, DroppedTo, within, Stored}

-- R31: is a busy one among so many states from a frame on?
busy_slice : (states : List ℕ) (first many : ℕ) → first + many ≤ length states →
    list_any (λ s. eqb s busy) (take many (drop first states)) ≡ busy_from states first many
unfolding busy_from
busy_slice states first zero room = refl
busy_slice states first (suc many) room =
    rw (drop-cons states first 0 (omega arith)) (rw (busy_slice states (suc first) many (omega arith)))

-- as code looks for it in that part of the states
pub busy_among : (states : List ℕ) (first many k : ℕ) → k ≡ many → first + many ≤ length states →
    list_any (λ s. eqb s busy) (mid_of first k states) ≡ busy_from states first many
busy_among states first many k is room = rw is (busy_slice states first many room)

-- B2: dropping a bank's frames one by one
pub drop_start : {m : Memory} {first : ℕ} → Stands m → DroppedTo m first first m
unfolding dropping
drop_start {m} {first} stands =
    record { many = 0; is = omega arith; room = omega arith; dropped = record { row = refl; stands = stands } }

pub drop_next : {m m₁ m₂ : Memory} {first at : ℕ} → DroppedTo m first at m₁ → at < first + bank_frames → DroppedOne m₁ at m₂ →
    DroppedTo m first (at + 1) m₂
unfolding dropping
drop_next {m} {m₁} {first = first} {at = at} to below one =
    record {
      many = suc to.many;
      is = omega (arith, to.is);
      room = omega arith;
      dropped = record {
        row = one.row ∙ ap (λ (r : Row). after r (asked Drop at)) to.dropped.row ∙
            ap (λ (f : ℕ). after (dropping first to.many (row_in m)) (asked Drop f)) to.is;
        stands = one.stands;
      };
    }

-- a drop of a frame that is not idle is refused
refuses_drop : (states : List ℕ) (frame : ℕ) → frame < frames → state_of states frame ≤ busy →
    (state_of states frame ≡ idle → ⊥) → accepts states (asked Drop frame) ≡ false
unfolding accepts verdict_of table_at
refuses_drop states frame small known other =
    by_cases (eqb (state_of states frame) absent)
    (λ e. rw (lt-leb frames frame small, eqb-true (state_of states frame) absent e))
    (λ e. let is_busy : state_of states frame ≡ busy = omega (arith, eqb-false (state_of states frame) absent e) in
    rw (lt-leb frames frame small, is_busy))

-- so that it leaves the row as it was
pub drop_nothing : {m : Memory} {frame : ℕ} → Stands m → frame < frames → (get_or m.states frame 0 ≡ idle → ⊥) →
    DroppedOne m frame m
drop_nothing {m} {frame} stands small other =
    let known = (ordered stands.reached).good.known frame in
    record {
      row = sym (after_refused (row_in m) (asked Drop frame) (refuses_drop m.states frame small known other));
      stands = stands;
    }

pub drop_one : {m m' : Memory} {frame : ℕ} {reply : Result ℕ Refusal} → Answered m (asked Drop frame) reply m' →
    DroppedOne m frame m'
drop_one met = record { row = met.next; stands = met.stands }

pub drop_end : {m m₁ : Memory} {first at : ℕ} → DroppedTo m first at m₁ → first + bank_frames ≤ at →
    Dropped m first bank_frames m₁
drop_end {m} {m₁} {first} {at} to past =
    let all : to.many ≡ bank_frames = omega (arith, to.is, to.room) in
    rw (← all) to.dropped

-- a state stored at so many gates from a frame on
stored_slice : (gates : List ℕ) (first many state : ℕ) → first + many ≤ length gates →
    Stored gates first many state (put_mid first many gates (replicate many state))
unfolding within
stored_slice gates first many state room =
    record {
      long = grind (arith, places);
      at = λ frame. by_cases (leb first frame)
          (λ low. let from = leb-true first frame low in
          by_cases (ltb frame (first + many))
          (λ high. let below = ltb-true frame (first + many) high in rw (low, high) (grind (arith, places)))
          (λ past. let from-end = ltb-false frame (first + many) past in rw (low, past) (grind (arith, places))))
          (λ under. let below = leb-false first frame under in rw under (grind (arith, places)));
    }

-- as code fills that part of the gates
pub stored_part : (gates part : List ℕ) (first many state k : ℕ) → k ≡ many → first + many ≤ length gates →
    part ≡ replicate (length (mid_of first k gates)) state → Stored gates first many state (put_mid first k gates part)
stored_part gates part first many state k is room filled =
    let long : length (mid_of first k gates) ≡ many = grind (arith, places) in
    rw (filled, long, is) (stored_slice gates first many state room)

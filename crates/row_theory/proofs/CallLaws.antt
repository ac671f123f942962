-- A frame call on lent memory, from its verdict to its promise.
use Rattle.std.specs.Prelude.{ℕ, suc, ◌+◌, ◌<◌, ◌≤◌, ◌≡◌, List, length, get_or, set, Ok, Err}
use Rattle.std.proofs.Common.{arith, sym, ◌∙◌, ap}
use Rattle.rules.specs.Limits.{slots}
use Rattle.rules.specs.declared.refusal.Refusal.{Refusal}
use Rattle.row_theory.specs.States.{absent, busy, state_of, held_bit, held_in, verdict_of}
use Rattle.row_theory.specs.StateLaws.{held_bit_absent, held_bit_small, held_in_set}
use Rattle.row_theory.specs.Promise.{Memory, memory, row_in, Stands, asked, Answered}
use Rattle.row_theory.proofs.PromiseLaws.{ordered, answered}
use Rattle.row_theory.proofs.VerdictLaws.{refused_verdict, Accepting, accepted_verdict}
use Rattle.row_theory.specs.Lending.{Shiftable, Shifted}
use Rattle.row_theory.proofs.LendingLaws.{indexed}
use Rattle.row_theory.specs.declared.Event.{Event}

-- every frame's state is one of the three, and the number held is theirs
pub known_states : {m : Memory} → Stands m → ((frame : ℕ) → get_or m.states frame 0 ≤ busy) × (m.held ≡ held_in m.states)
known_states stands = ((ordered stands.reached).good.known, (ordered stands.reached).sound.number)

-- A3: a refusal keeps the promise, and leaves the memory as it was
pub call_refused : {m : Memory} {event : Event} {frame : ℕ} {r : Refusal} → Stands m →
    Err r ≡ verdict_of m.states (asked event frame) → Answered m (asked event frame) (Err r) m
call_refused {m} {event} {frame} stands is =
    let refusing = refused_verdict (row_in m) (asked event frame) (sym is) in
    answered stands.reached (sym refusing.reply) (sym refusing.same) stands.index

-- what an accepted call finds: slots in which it can be done, and a number held that the bits of its frame's state can change
pub record Allowed (m : Memory) (event : Event) (frame next : ℕ) : Type 0 where
  pub stands : Stands m
  pub shiftable : Shiftable event m.slots m.places m.front frame
  pub accepting : Accepting (row_in m) event frame next
  pub top : m.held + held_bit next ≤ suc slots
  pub bit : held_bit (state_of m.states frame) ≤ m.held
  pub counted : held_in (set m.states frame next) + held_bit (state_of m.states frame) ≡ m.held + held_bit next

pub call_allowed : {m : Memory} {event : Event} {frame next : ℕ} → Stands m →
    Ok next ≡ verdict_of m.states (asked event frame) → Allowed m event frame next
call_allowed {m} {event} {frame} {next} stands is =
    let order = ordered stands.reached in
    let accepting = accepted_verdict (row_in m) event frame order (sym is) in
    let inside : frame < length m.states = omega (arith, accepting.finds.small, order.good.long) in
    record {
      stands = stands;
      shiftable = record { indexed = indexed order stands.index; ready = accepting.finds };
      accepting = accepting;
      top = omega (arith, order.sound.number, order.good.few, held_bit_small next);
      bit = omega (arith, order.sound.number, held_in_set m.states frame absent inside, held_bit_absent);
      counted = omega (arith, order.sound.number, held_in_set m.states frame next inside);
    }

-- an accepted call whose steps left what they should keeps the promise
pub call_done : {m : Memory} {event : Event} {frame next examined : ℕ} {slots' places' : List ℕ} {front' held' : ℕ} →
    Allowed m event frame next → Shifted event m.slots m.front frame examined slots' places' front' →
    held' + held_bit (state_of m.states frame) ≡ m.held + held_bit next →
    Answered m (asked event frame) (Ok examined) (memory slots' places' (set m.states frame next) front' held')
call_done {m} {event} {frame} {next} {held' = held'} allowed shifted bits =
    let same : held' ≡ held_in (set m.states frame next) = omega (arith, allowed.counted) in
    answered allowed.stands.reached (ap Ok shifted.answer ∙ sym allowed.accepting.reply)
    ((λ i. record { slots = shifted.row i; states = set m.states frame next; front = shifted.mark i; held = same i }) ∙
    sym allowed.accepting.leaves)
    shifted.index

-- A tidy row, and the tidy row that its last call was made to: before a start, before a put, before a put and its drop.
use Rattle.std.specs.Prelude.{ℕ, suc, ◌+◌, ◌-◌, ◌<◌, ◌≤◌, ◌≡◌, true, false, List, [], ◌∷◌, eqb, length, get_or, set}
use Rattle.std.proofs.Common.{arith, sym, ◌∙◌, ap, subst, length-set, get_or-set_same, get_or-set_other, eq-eqb, ne_eqb, eqb-true}
use Rattle.std.proofs.Math.Path.{refl}
use Rattle.std.proofs.lemmas.Bool.{eqb-false}
use Rattle.rules.specs.Limits.{frames}
use Rattle.rules.specs.Limits
use Rattle.rules.specs.Cases.{by_cases}
use Rattle.rules.specs.Lists.{times}
use Rattle.row_theory.specs.States.{absent, idle, busy, state_of, held_bit, held_in}
use Rattle.row_theory.specs.Slots.{empty, emptied}
use Rattle.row_theory.specs.Row.{Row, after}
use Rattle.row_theory.specs.Runs.{Reached}
use Rattle.row_theory.specs.Promise.{row_with, asked}
use Rattle.row_theory.specs.Counting.{times_set}
use Rattle.row_theory.specs.StateLaws.{held_in_set}
use Rattle.row_theory.proofs.PlaceLaws.{emptied_place, slot_of_new}
use Rattle.row_theory.proofs.Tidy.{Tidy}
use Rattle.row_theory.specs.declared.Event.TheVariants.{Put, Start, Drop}
use Rattle.row_theory.proofs.RebuildCalls.{set_back, reached_then, put_takes, start_takes, drop_takes}
use Rattle.row_theory.proofs.RebuildCalls.{put_gives, start_gives, drop_gives}

-- an absent frame, where not all are held
record Spare (states : List ℕ) : Type 0 where
  pub frame : ℕ
  pub small : frame < length states
  pub is : state_of states frame ≡ absent

spare_frame : (states : List ℕ) → held_in states < length states → Spare states
unfolding held_in held_bit
spare_frame [] fewer = absurd (omega arith)
spare_frame (s ∷ states) fewer =
    by_cases (eqb s absent) (λ e. record { frame = 0; small = omega arith; is = eqb-true s absent e })
    (λ e. let rest = spare_frame states (omega (arith, rw e at fewer)) in
    record { frame = suc rest.frame; small = omega (arith, rest.small); is = rest.is })

-- no transfer is under way
abbrev pub Calm : List ℕ → Type 0
Calm states = (frame : ℕ) → state_of states frame ≡ busy → ⊥

bit_idle : held_bit idle ≡ 1
bit_idle = unfold held_bit in refl

bit_busy : held_bit busy ≡ 1
bit_busy = unfold held_bit in refl

bit_absent : held_bit absent ≡ 0
bit_absent = unfold held_bit in refl

pub bit_none : (state : ℕ) → held_bit state ≡ 0 → state ≡ absent
unfolding held_bit
bit_none state none = by_cases (eqb state absent) (eqb-true state absent) (λ e. absurd (omega (arith, rw e at none)))

-- a state other than busy of a frame that stands in the slots is idle
pub calm_idle : (state : ℕ) → state ≤ busy → (state ≡ busy → ⊥) → 0 < held_bit state → state ≡ idle
calm_idle state known calm some =
    by_cases (eqb state absent) (λ e. absurd (omega (arith, bit_absent, ap held_bit (eqb-true state absent e))))
    (λ e. let here : state ≡ absent → ⊥ = eqb-false state absent e in
    by_cases (eqb state busy) (λ b. absurd (calm (eqb-true state busy b)))
    (λ b. let other : state ≡ busy → ⊥ = eqb-false state busy b in
    omega arith))

-- what a store into the states leaves of them
known_stored : (states : List ℕ) (frame next : ℕ) → frame < length states → next ≤ busy →
    ((f : ℕ) → state_of states f ≤ busy) → (f : ℕ) → state_of (set states frame next) f ≤ busy
known_stored states frame next inside low known f =
    by_cases (eqb f frame)
    (λ e. rw (eqb-true f frame e, get_or-set_same states frame next absent inside) low)
    (λ e. rw (get_or-set_other states frame f next absent (eqb-false f frame e)) (known f))

pub calm_stored : (states : List ℕ) (frame next : ℕ) → frame < length states → next < busy → Calm states →
    Calm (set states frame next)
calm_stored states frame next inside low calm f is =
    by_cases (eqb f frame)
    (λ e. omega (arith, rw (eqb-true f frame e, get_or-set_same states frame next absent inside) at is))
    (λ e. calm f (rw (get_or-set_other states frame f next absent (eqb-false f frame e)) at is))

module _ {slots states : List ℕ} {front held : ℕ} (it : Tidy (row_with slots states front held)) where
  -- before the last start: the frame was idle
  module _ (frame : ℕ) (small : frame < frames) (is_busy : state_of states frame ≡ busy) where
    inside : frame < length states
    inside = omega (arith, it.wide)

    same_held : held_in (set states frame idle) ≡ held_in states
    same_held = omega (arith, held_in_set states frame idle inside, bit_idle, bit_busy, ap held_bit is_busy)

    pub before_start : Tidy (row_with slots (set states frame idle) front held)
    before_start =
        record {
          long = it.long;
          wide = length-set states frame idle ∙ it.wide;
          inside = it.inside;
          clear = it.clear;
          slots = it.slots;
          states = known_stored states frame idle inside (omega arith) it.states;
          once = λ f low.
              by_cases (eqb f frame)
              (λ e. rw (eqb-true f frame e, get_or-set_same states frame idle absent inside)
              (it.once frame small ∙ ap held_bit is_busy ∙ bit_busy ∙ sym bit_idle))
              (λ e. rw (get_or-set_other states frame f idle absent (eqb-false f frame e)) (it.once f low));
          number = it.number ∙ sym same_held;
          few = it.few;
          roomy = it.roomy;
        }

    pub started : after (row_with slots (set states frame idle) front held) (asked Start frame) ≡ row_with slots states front held
    started =
        let was : state_of (set states frame idle) frame ≡ idle = get_or-set_same states frame idle absent inside in
        let back : set (set states frame idle) frame busy ≡ states = set_back states frame idle busy absent inside is_busy in
        let number = it.number in
        start_gives slots (set states frame idle) front held frame (start_takes (set states frame idle) frame small was)
        ∙ (λ i. row_with slots (back i) front (held_in (back i))) ∙ (λ i. row_with slots states front (sym number i))

  -- before the last put: the frame at the front was absent, and its slot empty
  module _ (below : front < Limits.slots) (frame : ℕ) (there : get_or slots front empty ≡ frame) (small : frame < frames)
      (isIdle : state_of states frame ≡ idle) where
    in_slots : front < length slots
    in_slots = omega (arith, it.long)

    in_states : frame < length states
    in_states = omega (arith, it.wide)

    one_less : held_in (set states frame absent) + 1 ≡ held_in states
    one_less = omega (arith, held_in_set states frame absent in_states, bit_idle, bit_absent, ap held_bit isIdle)

    gone : times frame (set slots front empty) ≡ 0
    gone =
        let found : eqb (get_or slots front empty) frame ≡ true = eq-eqb (get_or slots front empty) frame there in
        let none : eqb empty frame ≡ false = ne_eqb empty frame (λ e. omega arith) in
        let counts = rw (found, none) at (times_set frame slots front empty empty in_slots) in
        omega (arith, counts, it.once frame small, ap held_bit isIdle, bit_idle)

    stays : (f : ℕ) → f < frames → (f ≡ frame → ⊥) → times f (set slots front empty) ≡ times f slots
    stays f low ne =
        let other : eqb (get_or slots front empty) f ≡ false =
        ne_eqb (get_or slots front empty) f (λ same. ne (sym same ∙ there)) in
        let none : eqb empty f ≡ false = ne_eqb empty f (λ e. omega arith) in
        omega (arith, rw (other, none) at (times_set f slots front empty empty in_slots))

    pub before_put : Tidy (row_with (set slots front empty) (set states frame absent) (suc front) (held - 1))
    before_put =
        record {
          long = length-set slots front empty ∙ it.long;
          wide = length-set states frame absent ∙ it.wide;
          inside = omega arith;
          clear = λ i low.
              by_cases (eqb i front)
              (λ e. rw (eqb-true i front e) (get_or-set_same slots front empty empty in_slots))
              (λ e. let ne : i ≡ front → ⊥ = eqb-false i front e in
              get_or-set_other slots front i empty empty ne ∙ it.clear i (omega arith));
          slots = λ i.
              by_cases (eqb i front)
              (λ e. rw (eqb-true i front e, get_or-set_same slots front empty empty in_slots) (omega arith))
              (λ e. rw (get_or-set_other slots front i empty empty (eqb-false i front e)) (it.slots i));
          states = known_stored states frame absent in_states (omega arith) it.states;
          once = λ f low.
              by_cases (eqb f frame)
              (λ e. rw (eqb-true f frame e, get_or-set_same states frame absent absent in_states) (gone ∙ sym bit_absent))
              (λ e. let ne : f ≡ frame → ⊥ = eqb-false f frame e in
              rw (get_or-set_other states frame f absent absent ne) (stays f low ne ∙ it.once f low));
          number = omega (arith, it.number, one_less);
          few = omega (arith, it.few);
          roomy = λ gap. omega (arith, it.few, it.number, one_less);
        }

    pub placed : after (row_with (set slots front empty) (set states frame absent) (suc front) (held - 1)) (asked Put frame)
        ≡ row_with slots states front held
    placed =
        let was : state_of (set states frame absent) frame ≡ absent = get_or-set_same states frame absent absent in_states in
        let room : held_in (set states frame absent) < Limits.held = omega (arith, it.few, it.number, one_less) in
        let back : set (set states frame absent) frame idle ≡ states =
        set_back states frame absent idle absent in_states isIdle in
        let row : set (set slots front empty) front frame ≡ slots = set_back slots front empty frame empty in_slots there in
        let number = it.number in
        put_gives (set slots front empty) (set states frame absent) front (held - 1) frame
        (put_takes (set states frame absent) frame small was room)
        ∙ (λ i. row_with (row i) (back i) front (held_in (back i))) ∙ (λ i. row_with slots states front (sym number i))

  -- before a put and its drop: the slot at the front was below it
  module _ (below : front < Limits.slots) (gap : get_or slots front empty ≡ empty) where
    pub before_gap : Tidy (row_with slots states (suc front) held)
    before_gap =
        record {
          long = it.long;
          wide = it.wide;
          inside = omega arith;
          clear = λ i low.
              by_cases (eqb i front) (λ e. rw (eqb-true i front e) gap)
              (λ e. let ne : i ≡ front → ⊥ = eqb-false i front e in
              it.clear i (omega arith));
          slots = it.slots;
          states = it.states;
          once = it.once;
          number = it.number;
          few = it.few;
          roomy = λ also. it.roomy gap;
        }

    pub gapped : Reached (row_with slots states (suc front) held) → Reached (row_with slots states front held)
    gapped reached =
        let number = it.number in
        let spare = spare_frame states (omega (arith, it.few, number, it.wide)) in
        let frame = spare.frame in
        let small : frame < frames = omega (arith, spare.small, it.wide) in
        let inside : front < length slots = omega (arith, it.long) in
        let room : held_in states < Limits.held = omega (arith, it.roomy gap, number) in
        let out : times frame slots ≡ 0 = it.once frame small ∙ ap held_bit spare.is ∙ bit_absent in
        let was : state_of (set states frame idle) frame ≡ idle = get_or-set_same states frame idle absent spare.small in
        let put = put_gives slots states front held frame (put_takes states frame small spare.is room) in
        let drop = drop_gives (set slots front frame) (set states frame idle) front (held_in (set states frame idle)) frame
        (drop_takes (set states frame idle) frame small was) in
        let row : emptied frame (set slots front frame) ≡ slots =
        emptied_place frame (set slots front frame)
        ∙ ap (λ (k : ℕ). set (set slots front frame) k empty) (slot_of_new frame slots front inside out)
        ∙ set_back slots front frame empty empty inside gap in
        let back : set (set states frame idle) frame absent ≡ states =
        set_back states frame idle absent absent spare.small spare.is in
        subst Reached
        (ap (λ (r : Row). after r (asked Drop frame)) put ∙ drop
        ∙ (λ i. row_with (row i) (back i) front (held_in (back i))) ∙ (λ i. row_with slots states front (sym number i)))
        (reached_then (reached_then reached (asked Put frame)) (asked Drop frame))

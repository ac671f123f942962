-- The victim after any calls (docs/RULES.md, W7): the frames that may go stand in the slots, and the oldest of them has the
-- earliest moment.
use Rattle.std.specs.Prelude.{ℕ, ◌<◌, ◌≤◌, ◌≡◌, Bool, true, ◌&&◌, List, ltb, eqb, Result, Ok, Err}
use Rattle.std.proofs.Common.{arith, eqb-true, lt-ltb, ltb-true, ltb-false}
use Rattle.rules.specs.Limits.{frames}
use Rattle.rules.specs.declared.Frame.{Frame}
use Rattle.rules.specs.declared.refusal.Refusal.{Refusal}
use Rattle.rules.specs.Cases.{by_cases, and_left, and_right}
use Rattle.rules.specs.Lists.{times}
use Rattle.row_theory.specs.States.{Call, idle, state_of, held_bit}
use Rattle.row_theory.specs.Slots.{frames_in, passes, oldest}
use Rattle.row_theory.specs.Row.{idle_among}
use Rattle.row_theory.specs.History.{states_after, moment_after, MayGo, VictimIs, VictimOf}
use Rattle.row_theory.specs.Runs.{row_after}
use Rattle.row_theory.specs.SlotLaws.{times_past}
use Rattle.row_theory.proofs.SoundRow.{sound_after}
use Rattle.row_theory.proofs.Oldest.{EarliestPassing, oldest_frames_in, oldest_none, oldest_chosen}

-- an idle frame stands in the slots
idle_there : (history : List Call) (frame : ℕ) → state_of (states_after history) frame ≡ idle →
    0 < times frame (frames_in (row_after history).slots)
idle_there history frame isIdle =
    let one : held_bit (state_of (states_after history) frame) ≡ 1 = unfold held_bit in rw isIdle in
    omega (arith, (sound_after history).once frame)

-- and what stands among the frames is a frame's number
idle_small : (history : List Call) (frame : ℕ) → state_of (states_after history) frame ≡ idle → frame < frames
idle_small history frame isIdle =
    by_cases (ltb frame frames) (ltb-true frame frames)
    (λ past. let there = idle_there history frame isIdle in
    absurd (omega (arith, times_past frame (row_after history).slots (ltb-false frame frames past))))

-- the frames that may go are those that the scan of the slots lets pass
goes_passes : (history : List Call) (may : ℕ → Bool) (frame : ℕ) → MayGo history may frame →
    passes (idle_among may (states_after history)) frame ≡ true
unfolding passes idle_among
goes_passes history may frame go = rw (lt-ltb frame frames (idle_small history frame go.0), go.0, go.1)

passes_goes : (history : List Call) (may : ℕ → Bool) (frame : ℕ) → passes (idle_among may (states_after history)) frame ≡ true →
    MayGo history may frame
unfolding passes idle_among
passes_goes history may frame e =
    let isIdle = eqb (state_of (states_after history) frame) idle in
    let both = and_right (ltb frame frames) (isIdle && may frame) e in
    (eqb-true (state_of (states_after history) frame) idle (and_left isIdle (may frame) both), and_right isIdle (may frame) both)

module _ (history : List Call) (may : ℕ → Bool) where
  abbrev pub oldest_now : ℕ
  oldest_now = oldest (idle_among may (states_after history)) (row_after history).slots

  -- W7: if the oldest is a frame, it is the victim by moments
  pub oldest_victim : oldest_now < frames → VictimIs (MayGo history may) (moment_after history) oldest_now
  oldest_victim found =
      let list = frames_in (row_after history).slots in
      let test = idle_among may (states_after history) in
      let same : oldest test list ≡ oldest_now = oldest_frames_in test (row_after history).slots in
      let chosen : EarliestPassing test list (moment_after history) oldest_now =
      rw (← same) (oldest_chosen test (moment_after history) list (sound_after history).order (rw same found)) in
      record {
        may_go = passes_goes history may oldest_now chosen.bears;
        earliest = λ other apart go.
            chosen.earliest other apart (idle_there history other go.0) (goes_passes history may other go);
      }

  -- and if it is none, no frame may go
  pub oldest_no_victim : frames ≤ oldest_now → (frame : ℕ) → MayGo history may frame → ⊥
  oldest_no_victim none frame go =
      let test = idle_among may (states_after history) in
      oldest_none test (frames_in (row_after history).slots) (rw (oldest_frames_in test (row_after history).slots) none)
      frame (idle_there history frame go.0) (goes_passes history may frame go)

-- W7: an answer about the frames that may go and their moments is one about frames that may go alike, whose moments are in the
-- same order
pub victim_alike : {goes also : ℕ → Type 0} {moment and : ℕ → ℕ} (states : List ℕ)
    (victim : Result Frame Refusal) →
    ((frame : ℕ) → goes frame → also frame) → ((frame : ℕ) → also frame → goes frame) →
    ((frame other : ℕ) → moment frame < moment other → and frame < and other) → VictimOf goes moment states victim →
    VictimOf also and states victim
victim_alike states (Ok frame) to from later says =
    record {
      may_go = to frame.0 says.may_go;
      earliest = λ other apart go. later frame.0 other (says.earliest other apart (from other go));
    }
victim_alike states (Err refusal) to from later says =
    record { none = λ frame go. says.none frame (from frame go); number = says.number; place = says.place }

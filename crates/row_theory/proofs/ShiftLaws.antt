-- What an accepted call does to lent slots and places, event by event (docs/RULES.md, W2, W4).
use Rattle.std.specs.Prelude.{ℕ, ◌<◌, ◌≡◌, refl, List}
use Rattle.std.proofs.Common.{arith, sym, ◌∙◌, ap}
use Rattle.rules.specs.Limits.{frames}
use Rattle.rules.specs.Lists.{times, without}
use Rattle.row_theory.specs.Slots.{frames_in, emptied, vacated, slots_then, front_then, examined_then, places_in}
use Rattle.row_theory.specs.Counting.{times_without, times_without_le, length_without_le}
use Rattle.row_theory.specs.SlotLaws.{frames_in_emptied, times_frames_in, emptied_length}
use Rattle.row_theory.specs.Holding.{emptied_holding, refits}
use Rattle.row_theory.specs.StateLaws.{bit_before}
use Rattle.row_theory.specs.Lending.{Seatable, SeatedNow, LeftSlot, Shiftable, Shifted}
use Rattle.row_theory.specs.declared.Event.{Event}
use Rattle.row_theory.specs.declared.Event.TheVariants.{Put, Touch, Start, End, Drop}

-- what each event asks
module _ {row places : List ℕ} {front frame : ℕ} where
  -- the frame of an accepted call stands in the slots as its event says
  there : {event : Event} → Shiftable event row places front frame → times frame row ≡ bit_before event
  there ask = sym (times_frames_in frame row ask.ready.small) ∙ ask.ready.once

  pub put_seatable : Shiftable Put row places front frame → Seatable row places front frame
  put_seatable ask =
      record {
        indexed = ask.indexed;
        small = ask.ready.small;
        fits = ask.ready.fits;
        few = ask.ready.few;
        out = there ask;
      }

  pub touch_once : Shiftable Touch row places front frame → times frame row ≡ 1
  touch_once ask = there ask

  pub drop_once : Shiftable Drop row places front frame → times frame row ≡ 1
  drop_once ask = there ask

  -- W4: once its slot is emptied, a touched frame can take one as a put frame does
  touch_seatable : Shiftable Touch row places front frame →
      Seatable (emptied frame row) (places_in (emptied frame row)) front frame
  touch_seatable ask =
      let small = ask.ready.small in
      let others = without frame (frames_in row) in
      let counted : (x : ℕ) → x < frames → times x (emptied frame row) ≡ times x others =
      λ x low. sym (times_frames_in x (emptied frame row) low) ∙ ap (times x) (frames_in_emptied frame row small) in
      record {
        indexed =
            record {
              long = emptied_length frame row ∙ ask.indexed.long;
              once = λ x low.
                  let fewer = times_without_le frame x (frames_in row) in
                  omega (arith, counted x low, times_frames_in x row low, ask.indexed.once x low);
              index = refl;
            };
        small = small;
        fits = refits (emptied_holding frame small ask.ready.fits);
        few = rw (frames_in_emptied frame row small) (omega (arith, length_without_le frame (frames_in row), ask.ready.few));
        out = omega (arith, counted frame small, times_without frame (frames_in row), ask.ready.once);
      }

  pub touch_seats : {row₁ places₁ : List ℕ} → Shiftable Touch row places front frame → LeftSlot row frame row₁ places₁ →
      Seatable row₁ places₁ front frame
  touch_seats ask left = rw (left.row, left.index) (touch_seatable ask)

-- what each event leaves
module _ {row : List ℕ} {front frame examined : ℕ} {row' places' : List ℕ} {front' : ℕ} where
  pub shifted_put : SeatedNow row front frame examined row' places' front' →
      Shifted Put row front frame examined row' places' front'
  unfolding slots_then front_then vacated
  shifted_put seat = record { answer = seat.answer; row = seat.row; index = seat.index; mark = seat.mark }

  shifted_touch : SeatedNow (emptied frame row) front frame examined row' places' front' →
      Shifted Touch row front frame examined row' places' front'
  unfolding slots_then front_then vacated examined_then
  shifted_touch seat = record { answer = seat.answer; row = seat.row; index = seat.index; mark = seat.mark }

  pub touched : {row₁ places₁ : List ℕ} → LeftSlot row frame row₁ places₁ →
      SeatedNow row₁ front frame examined row' places' front' →
      Shifted Touch row front frame examined row' places' front'
  touched left seat = shifted_touch (rw left.row at seat)

pub shifted_start : {row places : List ℕ} {front frame : ℕ} → Shiftable Start row places front frame →
    Shifted Start row front frame 0 row places front
unfolding slots_then front_then vacated examined_then
shifted_start ask = record { answer = refl; row = refl; index = ask.indexed.index; mark = refl }

pub shifted_end : {row places : List ℕ} {front frame : ℕ} → Shiftable End row places front frame →
    Shifted End row front frame 0 row places front
unfolding slots_then front_then vacated examined_then
shifted_end ask = record { answer = refl; row = refl; index = ask.indexed.index; mark = refl }

pub dropped : {row row₁ places₁ : List ℕ} {front frame : ℕ} → LeftSlot row frame row₁ places₁ →
    Shifted Drop row front frame 0 row₁ places₁ front
unfolding slots_then front_then vacated examined_then
dropped left = record { answer = refl; row = left.row; index = left.index ∙ ap places_in (sym left.row); mark = refl }

-- the event is known by an equation
pub asks_as : {event known : Event} {row places : List ℕ} {front frame : ℕ} → event ≡ known →
    Shiftable event row places front frame → Shiftable known row places front frame
asks_as e ask = rw e at ask

pub leaves_as : {event known : Event} {row : List ℕ} {front frame examined : ℕ} {row' places' : List ℕ} {front' : ℕ} →
    event ≡ known → Shifted known row front frame examined row' places' front' →
    Shifted event row front frame examined row' places' front'
leaves_as e done = rw e done

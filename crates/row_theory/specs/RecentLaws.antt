-- Laws of the list of frames, most recent first: what an accepted call makes of it, and of the order of moments along it.
use Rattle.std.specs.Prelude.{ℕ, suc, ◌+◌, ◌<◌, ◌≤◌, ◌≡◌, refl, true, false, cond, List, [], ◌∷◌, eqb, length}
use Rattle.std.proofs.Common.{le_refl, arith, ◌∙◌, ap, eqb-true}
use Rattle.std.proofs.lemmas.Bool.{eqb-false}
use Rattle.rules.specs.Lists.{times, without}
use Rattle.rules.specs.Cases.{by_cases}
use Rattle.row_theory.specs.States.{moves}
use Rattle.row_theory.specs.StateLaws.{bit_before, bit_later}
use Rattle.row_theory.specs.Counting.{times_cons, times_same, times_other, times_without, times_without_other}
use Rattle.row_theory.specs.Counting.{times_without_le, length_without, length_without_le}
use Rattle.row_theory.specs.Runs.{Recent}
use Rattle.row_theory.specs.declared.Event.{Event}
use Rattle.row_theory.specs.declared.Event.TheVariants.{Put, Touch, Start, End, Drop}

-- W4: the frames without the one that a touch or a drop takes out of its slot
unfoldable pub fewer : Event → ℕ → List ℕ → List ℕ
fewer Put frame list = list
fewer Touch frame list = without frame list
fewer Start frame list = list
fewer End frame list = list
fewer Drop frame list = without frame list

-- what an accepted call makes of the frames, most recent first
unfoldable pub recent_then : Event → ℕ → List ℕ → List ℕ
recent_then event frame list = cond (moves event) (frame ∷ fewer event frame list) (fewer event frame list)

-- the frame of an accepted call stands in the list as its state says
pub times_then : (event : Event) (frame : ℕ) (list : List ℕ) → times frame list ≡ bit_before event →
    times frame (recent_then event frame list) ≡ bit_later event
unfolding recent_then fewer
times_then Put frame list h = times_same frame frame list refl ∙ ap suc h
times_then Touch frame list h = omega (arith, times_same frame frame (without frame list) refl, times_without frame list)
times_then Start frame list h = h
times_then End frame list h = h
times_then Drop frame list h = omega (arith, times_without frame list)

-- every other frame as before
pub times_then_other : (event : Event) (frame other : ℕ) (list : List ℕ) → (frame ≡ other → ⊥) →
    times other (recent_then event frame list) ≡ times other list
unfolding recent_then fewer
times_then_other Put frame other list ne = times_other other frame list ne
times_then_other Touch frame other list ne =
    times_other other frame (without frame list) ne ∙ times_without_other frame other list ne
times_then_other Start frame other list ne = refl
times_then_other End frame other list ne = refl
times_then_other Drop frame other list ne = times_without_other frame other list ne

pub length_then : (event : Event) (frame : ℕ) (list : List ℕ) → times frame list ≡ bit_before event →
    length (recent_then event frame list) + bit_before event ≡ length list + bit_later event
unfolding recent_then fewer
length_then Put frame list h = omega arith
length_then Touch frame list h = omega (arith, length_without frame list (omega arith))
length_then Start frame list h = refl
length_then End frame list h = refl
length_then Drop frame list h = omega (arith, length_without frame list (omega arith))

pub length_fewer : (event : Event) (frame : ℕ) (list : List ℕ) → length (fewer event frame list) ≤ length list
unfolding fewer
length_fewer Put frame list = le_refl (length list)
length_fewer Touch frame list = length_without_le frame list
length_fewer Start frame list = le_refl (length list)
length_fewer End frame list = le_refl (length list)
length_fewer Drop frame list = length_without_le frame list

-- moments that agree on the list's frames order it alike
pub recent_same : (m n : ℕ → ℕ) (list : List ℕ) → ((x : ℕ) → 0 < times x list → n x ≡ m x) → Recent m list → Recent n list
unfolding Recent
recent_same m n [] agree order = tt
recent_same m n (x ∷ list) agree order = (
  (λ y inside. let past : 0 < times y (x ∷ list) = omega (arith, times_cons y x list) in
      let here : 0 < times x (x ∷ list) = omega (arith, times_same x x list refl) in
      omega (arith, order.0 y inside, agree y past, agree x here)),
  recent_same m n list (λ y inside. agree y (omega (arith, times_cons y x list))) order.1,
)

-- taking a frame out keeps the order
pub recent_without : (m : ℕ → ℕ) (x : ℕ) (list : List ℕ) → Recent m list → Recent m (without x list)
unfolding Recent without
recent_without m x [] order = tt
recent_without m x (y ∷ list) order =
    by_cases (eqb y x) (λ e. rw e order.1)
    (λ e. rw e ((λ z inside. order.0 z (omega (arith, times_without_le x z list))), recent_without m x list order.1))

-- what a call changes of the moments: its frame's becomes the latest if it moves, every other stays
pub record Later (event : Event) (frame : ℕ) (m n : ℕ → ℕ) : Type 0 where
  pub latest : moves event ≡ true → (x : ℕ) → m x < n frame
  pub kept : moves event ≡ false → n frame ≡ m frame
  pub others : (x : ℕ) → (frame ≡ x → ⊥) → n x ≡ m x

-- a frame at the head of a list in which it does not stand, with the latest moment
recent_head : (frame : ℕ) (m n : ℕ → ℕ) (list : List ℕ) → ((x : ℕ) → m x < n frame) → ((x : ℕ) → (frame ≡ x → ⊥) → n x ≡ m x) →
    times frame list ≡ 0 → Recent m list → Recent n (frame ∷ list)
unfolding Recent
recent_head frame m n list latest others out order =
    let agree : (x : ℕ) → 0 < times x list → n x ≡ m x =
    λ x inside. others x (λ e. omega (arith, ap (λ (y : ℕ). times y list) e)) in
    ((λ y inside. omega (arith, agree y inside, latest y)), recent_same m n list agree order)

-- a call that does not move its frame changes no moment
recent_kept : (frame : ℕ) (m n : ℕ → ℕ) (list : List ℕ) → n frame ≡ m frame → ((x : ℕ) → (frame ≡ x → ⊥) → n x ≡ m x) →
    Recent m list → Recent n list
recent_kept frame m n list kept others order =
    recent_same m n list
    (λ x inside. by_cases (eqb frame x)
    (λ e. let same : frame ≡ x = eqb-true frame x e in rw same at kept)
    (λ e. others x (eqb-false frame x e)))
    order

-- W1, W7: an accepted call keeps the frames most recent first
pub recent_then_law : (event : Event) (frame : ℕ) (m n : ℕ → ℕ) (list : List ℕ) → times frame list ≡ bit_before event →
    Later event frame m n → Recent m list → Recent n (recent_then event frame list)
unfolding recent_then fewer
recent_then_law Put frame m n list h later order = recent_head frame m n list (later.latest refl) later.others h order
recent_then_law Touch frame m n list h later order =
    recent_head frame m n (without frame list) (later.latest refl) later.others (omega (arith, times_without frame list))
    (recent_without m frame list order)
recent_then_law Start frame m n list h later order = recent_kept frame m n list (later.kept refl) later.others order
recent_then_law End frame m n list h later order = recent_kept frame m n list (later.kept refl) later.others order
recent_then_law Drop frame m n list h later order =
    recent_kept frame m n (without frame list) (later.kept refl) later.others (recent_without m frame list order)

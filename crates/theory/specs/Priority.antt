-- Priority among pages at a moment, and what a list or a cache asks of it.
use Rattle.std.specs.Prelude.{ℕ, Bool, true, false, cond, ◌≡◌, List}

-- `above a b`: page a has the higher priority of the two
abbrev pub Priority : Type 0
Priority = ℕ → ℕ → Bool

-- A policy gives the priority at a reference from the references before it, latest first, and those after it.
abbrev pub Policy : Type 0
Policy = List ℕ → List ℕ → Priority

abbrev pub higher : Priority → ℕ → ℕ → ℕ
higher above a b = cond (above a b) a b

abbrev pub lower : Priority → ℕ → ℕ → ℕ
lower above a b = cond (above a b) b a

-- what the theorems ask of a priority: it is a strict order in which any two pages can be compared
pub record Order (above : Priority) : Type 0 where
  pub asymmetric : (a b : ℕ) → above a b ≡ true → above b a ≡ false
  pub transitive : (a b c : ℕ) → above a b ≡ true → above b c ≡ true → above a c ≡ true
  pub total : (a b : ℕ) → above a b ≡ false → (a ≡ b → ⊥) → above b a ≡ true

-- The reader's answer, looked at by its cases, gives what the exported reader promises.
use Rattle.std.specs.Prelude.{ℕ, ◌≡◌, refl, List, set, Result, Ok, Err}
use Rattle.std.proofs.Common.{◌∙◌, arith}
use Rattle.rules.specs.Told.{Told, told_of}
use Rattle.rules.specs.declared.refusal.Refusal.{Refusal}
use Rattle.file_theory.specs.declared.Counts.{Counts}
use Rattle.file_theory.specs.Decoding.{Trace}
use Rattle.file_theory.specs.Promises.{FileRead}
use Rattle.exports.specs.File.{FileTold}

module _ {caps refs caps-after refs-after : List ℕ} {answer : Result Counts Refusal} {told : Told} (counts : List ℕ) where
  pub accepted : {o : Result Trace Refusal} (c : Counts) → FileRead o caps refs answer caps-after refs-after
      → answer ≡ Ok c → told ≡ told_of (Ok 0)
      → FileTold o caps refs counts told caps-after refs-after (set (set counts 0 c.capacities) 1 c.references)
  accepted {o = Ok t} c p e n =
      record { answered = n; caps_table = p.caps_table; refs_table = p.refs_table; counts = cc }
  accepted {o = Err r} c p e n = absurd (let z : ◌≡◌ {A = ℕ} 0 1 = cc in let w : ⊥ = omega arith in w)

  pub refused : {o : Result Trace Refusal} (r : Refusal) → FileRead o caps refs answer caps-after refs-after
      → answer ≡ Err r → told ≡ told_of (Err r)
      → FileTold o caps refs counts told caps-after refs-after counts
  refused {o = Ok t} r p e n = absurd (let z : ◌≡◌ {A = ℕ} 0 1 = cc in let w : ⊥ = omega arith in w)
  refused {o = Err x} r p e n =
      record { answered = n ∙ cc; caps_table = p.caps_table; refs_table = p.refs_table; counts = refl }

-- Laws of the report's lines: read off three hit tables, one line more, and how long they are.
use Rattle.std.specs.Prelude.{ℕ, zero, suc, ◌-◌, ◌*◌, ◌^◌, ◌≤◌, ◌<◌, ◌≡◌, refl, true, ◌&&◌, leb, ltb}
use Rattle.std.specs.Prelude.{length, get_or, take}
use Rattle.std.proofs.Math.Path.{sym, ap}
use Rattle.std.proofs.Common.{◌∙◌, add-zero, sub-one, leb-true, take-suc, length-take-le}
use mathlib.Core.List.{List, [], ◌∷◌, ◌++◌, append_assoc, append-nil}
use native.Mathlib.Omega.{arith}
use Rattle.std.proofs.Math.ListN.{length-append, get_or-eq_default}
use Rattle.std.proofs.lemmas.Bool.{and_parts}
use Rattle.rules.specs.Limits.{capacities, is_capacity, lru, lfu, opt}
use Rattle.theory.specs.Plain.{hits_at}
use Rattle.file_theory.specs.Decoding.{rising}
use Rattle.report_theory.specs.Report.{line, ending, lines}
use Rattle.report_theory.specs.Buffer.{Wrote, written_nothing}
use Rattle.report_theory.specs.Decimals.{decimal_short}

-- four numbers of ten digits, three spaces and a newline
abbrev pub longest_line : ℕ
longest_line = 44

pub line_short : (k a b c : ℕ) → k < 2 ^ 32 → a < 2 ^ 32 → b < 2 ^ 32 → c < 2 ^ 32 → length (line k a b c) ≤ longest_line
unfolding line
line_short k a b c hk ha hb hc =
    simp length-append
    (omega (arith, decimal_short k hk, decimal_short a ha, decimal_short b hb, decimal_short c hc))

-- a word of ten letters and a space, a number of ten digits and a newline
pub ending_short : (n : ℕ) → n < 2 ^ 32 → length (ending n) ≤ 22
unfolding ending
ending_short n h = simp length-append (omega (arith, decimal_short n h))

-- A4: entry C - 1 of a hit table is the hits at C; at no frames there are none
abbrev pub hits_in : List ℕ → ℕ → ℕ
hits_in table c = get_or (0 ∷ table) c 0

pub hits_none : (table : List ℕ) (c : ℕ) → c < 1 → hits_in table c ≡ 0
hits_none table zero h = refl
hits_none table (suc c) h = absurd (omega arith)

pub hits_past : (table : List ℕ) (c : ℕ) → length table < c → hits_in table c ≡ 0
hits_past table c h = get_or-eq_default (0 ∷ table) 0 h

pub hits_entry : (table : List ℕ) (c : ℕ) → 1 ≤ c → get_or table (c - 1) 0 ≡ hits_in table c
hits_entry table zero h = absurd (omega arith)
hits_entry table (suc c) h = rw sub-one

-- every number of a table fits 32 bits
abbrev pub Fits32 : List ℕ → Type 0
Fits32 table = (i : ℕ) → get_or table i 0 < 2 ^ 32

pub hits_fits : (table : List ℕ) → Fits32 table → (c : ℕ) → hits_in table c < 2 ^ 32
hits_fits table all zero = omega arith
hits_fits table all (suc c) = all c

pub fits_take : (i : ℕ) (table : List ℕ) → Fits32 table → Fits32 (take i table)
fits_take zero table all j = omega arith
fits_take (suc i) [] all j = omega arith
fits_take (suc i) (x ∷ table) all zero = all 0
fits_take (suc i) (x ∷ table) all (suc j) = fits_take i table (λ k. all (suc k)) j

-- the lines of some capacities, read off the tables of the three policies
module _ (a b c : List ℕ) where
  abbrev pub table_line : ℕ → List ℕ
  table_line k = line k (hits_in a k) (hits_in b k) (hits_in c k)

  unfoldable pub table_lines : List ℕ → List ℕ
  table_lines [] = []
  table_lines (k ∷ ks) = table_line k ++ table_lines ks

  lines_snoc : (ks : List ℕ) (k : ℕ) → table_lines (ks ++ (k ∷ [])) ≡ table_lines ks ++ table_line k
  unfolding table_lines
  lines_snoc [] k = append-nil (table_line k)
  lines_snoc (j ∷ ks) k =
      ap {B = List ℕ} (λ t. table_line j ++ t) (lines_snoc ks k)
      ∙ sym (append_assoc (table_line j) (table_lines ks) (table_line k))

  -- one line more
  pub lines_more : (ks : List ℕ) (i : ℕ) → i < length ks
      → table_lines (take (suc i) ks) ≡ table_lines (take i ks) ++ table_line (get_or ks i 0)
  lines_more ks i h = rw (take-suc ks i 0 h) (lines_snoc (take i ks) (get_or ks i 0))

  pub lines_short : Fits32 a → Fits32 b → Fits32 c → (ks : List ℕ) → Fits32 ks
      → length (table_lines ks) ≤ longest_line * length ks
  unfolding table_lines
  lines_short fa fb fc [] f = omega arith
  lines_short fa fb fc (k ∷ ks) f =
      let ih = lines_short fa fb fc ks (λ i. f (suc i)) in
      let here =
      line_short k (hits_in a k) (hits_in b k) (hits_in c k) (f 0) (hits_fits a fa k) (hits_fits b fb k) (hits_fits c fc k) in
      simp length-append (omega (arith, ih, here))

  pub no_lines : (at : ℕ) (out : List ℕ) → Wrote at (table_lines []) out at out
  unfolding table_lines
  no_lines at out = record { place = sym (add-zero at); buffer = sym (written_nothing at out) }

  -- the lines so far leave room for one more
  pub lines_room : Fits32 a → Fits32 b → Fits32 c → (ks : List ℕ) → Fits32 ks → (i : ℕ) → i ≤ length ks
      → length (table_lines (take i ks)) ≤ longest_line * i
  lines_room fa fb fc ks f i h =
      let l : length (take i ks) ≡ i = length-take-le i ks h in
      omega (arith, lines_short fa fb fc (take i ks) (fits_take i ks f))

-- a table holds a policy's hits at every capacity (A4)
abbrev pub Holds : ℕ → List ℕ → List ℕ → Type 0
Holds policy refs table = (k : ℕ) → 1 ≤ k → k ≤ capacities → hits_in table k ≡ hits_at policy k refs

-- of capacities that keep R9, the lines of such tables are the lines of the hits
pub hits_lines : (refs a b c : List ℕ) → Holds lru refs a → Holds lfu refs b → Holds opt refs c
    → (before : ℕ) (ks : List ℕ) → rising before ks ≡ true → table_lines a b c ks ≡ lines refs ks
unfolding table_lines lines rising
hits_lines refs a b c ha hb hc before [] e = refl
hits_lines refs a b c ha hb hc before (k ∷ ks) e =
    let ok = and_parts (is_capacity k) (ltb before k && rising k ks) e in
    let range = and_parts (leb 1 k) (leb k capacities) ok.0 in
    let rest = and_parts (ltb before k) (rising k ks) ok.1 in
    let low : 1 ≤ k = leb-true 1 k range.0 in
    let high : k ≤ capacities = leb-true k capacities range.1 in
    rw (ha k low high, hb k low high, hc k low high, hits_lines refs a b c ha hb hc k ks rest.1)

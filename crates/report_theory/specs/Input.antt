-- What is promised to a program that reads its input into a buffer and stops when the buffer is full (docs/RULES.md, F5).
use Rattle.std.specs.Prelude.{ℕ, suc, ◌≤◌, ◌≡◌, List, length, take}
use Rattle.std.proofs.Common.{sym, arith, length-take, take_all}
use Rattle.file_theory.specs.Format.{longest, Came}
use Rattle.file_theory.specs.Longest.{came_says}
use Rattle.report_theory.specs.Report.{report}
use Rattle.report_theory.specs.Buffer.{Printed, printed_once}

-- the buffer takes one byte more than the longest file has; whatever the input is of which n bytes came into it, the report
-- of the whole input is printed
pub record InputPrinted (buffer : List ℕ) (n : ℕ) (before : List ℕ) (count : ℕ) (after : List ℕ) : Type 0 where
  pub room : length buffer ≡ suc longest
  pub whole : (input : List ℕ) → Came n buffer input → Printed (report input) before count after
  pub within : count ≤ length after
  pub part : count ≡ length (take count after)

-- what came is itself such an input
came_itself : (n : ℕ) (buffer : List ℕ) → length buffer ≡ suc longest → Came n buffer (take n buffer)
came_itself n buffer room = sym (take_all (suc longest) (take n buffer) (simp length-take (omega arith)))

-- the report of what came is the report of every such input
pub input_printed : {buffer before after : List ℕ} {n count : ℕ} → length buffer ≡ suc longest
    → Printed (report (take n buffer)) before count after → InputPrinted buffer n before count after
unfolding report
input_printed {buffer} {n = n} room p =
    record {
      room = room;
      whole = λ input came. rw (← came_says n buffer input came) p;
      within = p.within;
      part = p.part;
    }

-- two answers that both meet the promise are equal, and so are the buffers they leave
pub input_printed_once : {buffer before x y : List ℕ} {n a b : ℕ} → InputPrinted buffer n before a x
    → InputPrinted buffer n before b y
    → (a ≡ b) × (x ≡ y)
input_printed_once {buffer} {n = n} p q =
    let came = came_itself n buffer p.room in
    printed_once (p.whole (take n buffer) came) (q.whole (take n buffer) came)

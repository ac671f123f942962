-- Closed examples, as the definitions compute them, beside the rules' own words and numbers: the report that the rules print
-- for trace T and capacities 1, 3 and 4, and a file for each refusal.
use Rattle.std.specs.Prelude.{ℕ, ◌≡◌, refl, List, [], ◌∷◌}
use Rattle.rules.specs.Refusals.{first_bad_page}
use Rattle.rules.specs.Lists as lists
use Rattle.theory.specs.Policy as policies
use Rattle.theory.specs.Plain as plain
use Rattle.file_theory.specs.Format.{numbers}
use Rattle.file_theory.specs.Encoding.{bytes_of, encode}
use Rattle.file_theory.specs.Decoding.{rising, pages_answer, pages_of, references_in, trace_behind, trace_in}
use Rattle.report_theory.specs.Text.{text, decimal_in, decimal}
use Rattle.report_theory.specs.Report.{line, ending, refused_line, lines, report}

abbrev sample : List ℕ
sample = encode (1 ∷ 3 ∷ 4 ∷ []) (2 ∷ 3 ∷ 2 ∷ 1 ∷ 5 ∷ 2 ∷ 4 ∷ 5 ∷ 3 ∷ 2 ∷ 5 ∷ 2 ∷ [])

pub sample_report : report sample ≡ text "capacity lru lfu opt\n1 0 0 0\n3 5 5 6\n4 6 6 7\nreferences 12\n"
unfolding report lines line ending decimal decimal_in
    trace_in trace_behind references_in pages_of pages_answer rising numbers bytes_of first_bad_page
    plain.hits_at plain.hits_after plain.cache_after plain.refer plain.evict plain.lowest
    policies.policy_of policies.lru policies.lfu policies.opt policies.by_more policies.smaller policies.nearness
    lists.holds lists.times lists.one lists.without
sample_report = refl

-- no capacities: the first line and the last
pub no_capacities : report (encode [] (7 ∷ [])) ≡ text "capacity lru lfu opt\nreferences 1\n"
unfolding report lines ending decimal decimal_in
    trace_in trace_behind references_in pages_of pages_answer rising numbers bytes_of first_bad_page
no_capacities = refl

-- an empty file ends inside its first count; 65 capacities; a capacity 0; 4,097 references; a byte behind the last section;
-- page 1,024
pub refused_files :
    (report [] ≡ text "refused 8\n")
    × (report (65 ∷ 0 ∷ []) ≡ text "refused 9\n")
    × (report (1 ∷ 0 ∷ 0 ∷ 0 ∷ []) ≡ text "refused 9\n")
    × (report (0 ∷ 0 ∷ 1 ∷ 16 ∷ []) ≡ text "refused 2\n")
    × (report (0 ∷ 0 ∷ 0 ∷ 0 ∷ 7 ∷ []) ≡ text "refused 10\n")
    × (report (0 ∷ 0 ∷ 1 ∷ 0 ∷ 0 ∷ 4 ∷ []) ≡ text "refused 3\n")
unfolding report refused_line decimal decimal_in
    trace_in trace_behind references_in pages_of pages_answer rising numbers first_bad_page
refused_files = (refl, refl, refl, refl, refl, refl)

-- One rule's text and the rows of its entries, computed from the definitions alone: 5(v0, v63) becomes 5(v63, v0) where the REC at entry 0,
-- started on v0, gives a term that v1 takes. Its entries begin at 2.
use Rattle.std.specs.Prelude.{◌≡◌, refl, List, [], ◌∷◌, ℕ}
use Rattle.text.specs.Text.{parts, valued, number_of, digits}
use Rattle.rules.specs.Rule.{var, con, none, more, Rule, variables, conditions_variables, rule_variables}
use Rattle.rules.specs.Text.{head_of, later, first_of, others_of, in_front, parent, condition_of, read, counted, rule_of, rules, read_lines, meant}
use Rattle.rules.specs.Entries.{mask_of, condition_code, conditions_code, rule_code, Entry, size, places, pat_entries, code_size, code_entries, rule_entries, row_of}
use Rattle.translate.specs.Added.{rules_entries}

-- the text: a line for each field, with its tab or its line feed
abbrev pub rule_bytes : List ℕ
rule_bytes =
    53 ∷ 9
    ∷ 50 ∷ 9
    ∷ 118 ∷ 48 ∷ 9
    ∷ 118 ∷ 54 ∷ 51 ∷ 9
    ∷ 53 ∷ 9
    ∷ 50 ∷ 9
    ∷ 118 ∷ 54 ∷ 51 ∷ 9
    ∷ 118 ∷ 48 ∷ 9
    ∷ 48 ∷ 9
    ∷ 118 ∷ 48 ∷ 9
    ∷ 118 ∷ 49 ∷ 10 ∷ []

-- the rule
abbrev pub example_rule : Rule
example_rule = record {
  left = con 5 (more (var 0) (more (var 63) none));
  right = con 5 (more (var 63) (more (var 0) none));
  conditions = record { callee = 0; start = var 0; outcome = var 1 } ∷ [];
}

rule-read : meant rule_bytes ≡ rules (example_rule ∷ [])
unfolding parts valued number_of digits head_of later first_of others_of in_front parent condition_of read counted rule_of read_lines meant
rule-read = refl

-- the rows of entries
abbrev rows_of : List Entry → List (List ℕ)
rows_of [] = []
rows_of (x ∷ xs) = row_of x ∷ rows_of xs

abbrev pub rule_rows : List (List ℕ)
rule_rows =
    (257 ∷ 3 ∷ 2147483648 ∷ 3 ∷ 0 ∷ 0 ∷ 0 ∷ 0 ∷ [])  -- 2 SCOPE of variables 0, 1 and 63
    ∷ (66 ∷ 0 ∷ 4 ∷ 8 ∷ 0 ∷ 0 ∷ 0 ∷ 0 ∷ [])  -- 3 SEQ
    ∷ (225 ∷ 0 ∷ 5 ∷ 0 ∷ 0 ∷ 0 ∷ 0 ∷ 0 ∷ [])  -- 4 MATCH
    ∷ (306 ∷ 5 ∷ 6 ∷ 7 ∷ 0 ∷ 0 ∷ 0 ∷ 0 ∷ [])  -- 5 PCON
    ∷ (288 ∷ 0 ∷ 0 ∷ 0 ∷ 0 ∷ 0 ∷ 0 ∷ 0 ∷ [])  -- 6 PVAR
    ∷ (288 ∷ 63 ∷ 0 ∷ 0 ∷ 0 ∷ 0 ∷ 0 ∷ 0 ∷ [])  -- 7 PVAR
    ∷ (66 ∷ 0 ∷ 9 ∷ 17 ∷ 0 ∷ 0 ∷ 0 ∷ 0 ∷ [])  -- 8 SEQ
    ∷ (273 ∷ 0 ∷ 10 ∷ 0 ∷ 0 ∷ 0 ∷ 0 ∷ 0 ∷ [])  -- 9 WHERE
    ∷ (66 ∷ 0 ∷ 11 ∷ 13 ∷ 0 ∷ 0 ∷ 0 ∷ 0 ∷ [])  -- 10 SEQ
    ∷ (241 ∷ 0 ∷ 12 ∷ 0 ∷ 0 ∷ 0 ∷ 0 ∷ 0 ∷ [])  -- 11 BUILD
    ∷ (288 ∷ 0 ∷ 0 ∷ 0 ∷ 0 ∷ 0 ∷ 0 ∷ 0 ∷ [])  -- 12 PVAR
    ∷ (66 ∷ 0 ∷ 14 ∷ 15 ∷ 0 ∷ 0 ∷ 0 ∷ 0 ∷ [])  -- 13 SEQ
    ∷ (129 ∷ 0 ∷ 0 ∷ 0 ∷ 0 ∷ 0 ∷ 0 ∷ 0 ∷ [])  -- 14 CALL
    ∷ (225 ∷ 0 ∷ 16 ∷ 0 ∷ 0 ∷ 0 ∷ 0 ∷ 0 ∷ [])  -- 15 MATCH
    ∷ (288 ∷ 1 ∷ 0 ∷ 0 ∷ 0 ∷ 0 ∷ 0 ∷ 0 ∷ [])  -- 16 PVAR
    ∷ (241 ∷ 0 ∷ 18 ∷ 0 ∷ 0 ∷ 0 ∷ 0 ∷ 0 ∷ [])  -- 17 BUILD
    ∷ (306 ∷ 5 ∷ 19 ∷ 20 ∷ 0 ∷ 0 ∷ 0 ∷ 0 ∷ [])  -- 18 PCON
    ∷ (288 ∷ 63 ∷ 0 ∷ 0 ∷ 0 ∷ 0 ∷ 0 ∷ 0 ∷ [])  -- 19 PVAR
    ∷ (288 ∷ 0 ∷ 0 ∷ 0 ∷ 0 ∷ 0 ∷ 0 ∷ 0 ∷ [])  -- 20 PVAR
    ∷ []

rule-translated : rows_of (rules_entries 2 (example_rule ∷ [])) ≡ rule_rows
unfolding variables rule_variables conditions_variables mask_of condition_code conditions_code rule_code size places pat_entries code_size code_entries rule_entries row_of rules_entries
rule-translated = refl

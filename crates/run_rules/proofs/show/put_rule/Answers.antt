-- What the writer writes fits its buffer.
use Rattle.std.proofs.Common.{List, ℕ, ◌≤◌, length, drop, ap, sym, arith}
use Rattle.std.specs.Prelude.{Result, Ok, Err}
use Rattle.std.specs.Result.{result_unwrap_or}
use Rattle.std.proofs.lemmas.List.{length-append, length-take-le}
use Rattle.rules.specs.Text.{rule_text}
use Rattle.write_rules.specs.Written.{RuleWritten, written_of}
use Rattle.write_rules.specs.Written.{Written}
use Rattle.write_rules.specs.declared.rule.WriteRefusal.{WriteRefusal}
use Rattle.run_rules.proofs.show.put_rule.Goals as goal

written-fits : {t : List ℕ} {u e : ℕ} {b : List ℕ} {r : Written} {b' : List ℕ} → RuleWritten t u e b r b' → r.length ≤ length b'
written-fits (RuleWritten.entries f z k) = omega (arith, ap (λ (w : Written). w.length) z)
written-fits (RuleWritten.none f n z k) = omega (arith, ap (λ (w : Written). w.length) z)
written-fits (RuleWritten.short f q a l z k) = omega (arith, ap (λ (w : Written). w.length) z)
written-fits {b = b} (RuleWritten.line f q a l z k) =
    omega (arith, ap (λ (w : Written). w.length) z, ap length k, length-append (rule_text q) (drop (length (rule_text q)) b))

or-nothing : (r : Result ℕ WriteRefusal) (n : ℕ) → (written_of r).length ≤ n → result_unwrap_or r 0 ≤ n
or-nothing (Ok k) n h = h
or-nothing (Err e) n h = omega arith

pub returns : goal.returns
returns c =
    let fits = or-nothing c.write_rule.result _ (written-fits c.write_rule.ensures) in
    rw c.unwrap_or.ensures (fits, sym (length-take-le _ _ fits))

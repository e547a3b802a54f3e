use Rattle.std.proofs.Common.{◌≡◌, ◌≢◌, ◌+◌, ◌++◌, ◌∷◌, List, ℕ, length, refl, sym, ap, ◌∙◌, subst, rules}
use Rattle.sl_commands.specs.declared.fault.TextKind.TheVariants.{Ending}
use Rattle.text_lines.specs.Lines.{end_word}
use Rattle.text_lines.specs.FirstFaults.{TextForm, IsReadUpTo}
use Rattle.text_lines.specs.Taking.{IsTaken, IsRefused}
use Rattle.text_lines.proofs.LoopLemmas.{none_read, more_read, end_read}
use Rattle.text_lines.proofs.FormLemmas.{nothing_read, reason_at, some_by_test, none_by_test, taken_read, refused_reason}
use Rattle.text_lines.proofs.form.read_lines.Goals as goal

pub lines-init : goal.lines-init
lines-init g c = (
  refl,
  nothing_read (g.L.FormLines.form (g.L.FormLines.given c.args.none)) c.args.lines.now
      (g.L.FormLines.items c.args.none) c.requires.none,
)

pub returns-then-not-is_empty-clause-fault : goal.returns-then-not-is_empty-clause-fault
returns-then-not-is_empty-clause-fault g c =
    let form = g.L.FormLines.form (g.L.FormLines.given c.args.none) in
    let bytes : List ℕ = form.header ++ (10 ∷ c.args.lines.now) in
    let is_end : c.in-Some.line.now ≡ end_word = search rules in
    let some = some_by_test c.in-Some.behind.now c.is_empty.result c.is_empty.ensures
    (search rules) in
    reason_at form bytes (c.count-count.result + 3)
    (length (g.L.FormLines.items c.lines.so_far) + 3) Ending c.fault.result c.fault.ensures
    (ap (λ (n : ℕ). n + 3) c.count-count.ensures.value)
    (more_read form bytes (g.L.FormLines.items c.lines.so_far) c.lines.rest.now c.in-Some.line.now
    c.in-Some.behind.now c.lines.invariant.1 c.in-Some.ensures.found is_end (c.requires.due _) some)

pub returns-then-eq-clause-found : goal.returns-then-eq-clause-found
returns-then-eq-clause-found g c =
    let form = g.L.FormLines.form (g.L.FormLines.given c.args.none) in
    let bytes : List ℕ = form.header ++ (10 ∷ c.args.lines.now) in
    let is_end : c.in-Some.line.now ≡ end_word = search rules in
    let none = none_by_test c.in-Some.behind.now c.is_empty.result c.is_empty.ensures
    (search rules) in
    end_read form bytes (g.L.FormLines.items c.lines.so_far) c.lines.rest.now c.in-Some.line.now
    c.in-Some.behind.now c.lines.invariant.1 c.in-Some.ensures.found is_end (c.requires.due _) none

pub returns-in-Err-clause-fault : goal.returns-in-Err-clause-fault
returns-in-Err-clause-fault g c =
    let form = g.L.FormLines.form (g.L.FormLines.given c.args.none) in
    let bytes : List ℕ = form.header ++ (10 ∷ c.args.lines.now) in
    let apart : c.in-Some.line.now ≢ end_word = search rules in
    refused_reason form bytes (g.L.FormLines.items c.lines.so_far) c.lines.rest.now
    c.in-Some.line.now c.in-Some.behind.now (c.count-count.result + 2) c.in-Err.refused
    c.reason.result c.lines.invariant.1 c.in-Some.ensures.found apart
    (subst (λ n. IsRefused (g.L.FormLines.form n) (g.L.FormLines.items c.lines.so_far)
    c.in-Some.line.now c.in-Err.refused) c.lines.invariant.0 c.in-Err.ensures.wrong)
    c.reason.ensures (ap (λ (n : ℕ). n + 2) c.count-count.ensures.value)

pub lines-preserved : goal.lines-preserved
lines-preserved g c =
    let form = g.L.FormLines.form (g.L.FormLines.given c.args.none) in
    let bytes : List ℕ = form.header ++ (10 ∷ c.args.lines.now) in (
      c.take_line.ensures.given ∙ c.lines.invariant.0,
      taken_read form bytes (g.L.FormLines.items c.lines.so_far)
          (g.L.FormLines.items c.take_line.new.self) c.lines.rest.now c.in-Some.line.now
          c.in-Some.behind.now c.lines.invariant.1 c.in-Some.ensures.found
          (subst (λ n. IsTaken (g.L.FormLines.form n) (g.L.FormLines.items c.lines.so_far)
          c.in-Some.line.now (g.L.FormLines.items c.take_line.new.self)) c.lines.invariant.0
          c.in-Ok.ensures.ok),
    )

pub returns-clause-fault : goal.returns-clause-fault
returns-clause-fault g c =
    let form = g.L.FormLines.form (g.L.FormLines.given c.args.none) in
    let bytes : List ℕ = form.header ++ (10 ∷ c.args.lines.now) in
    reason_at form bytes (c.count.result + 2) (length (g.L.FormLines.items c.lines.so_far) + 2)
    Ending c.fault-2.result c.fault-2.ensures (ap (λ (n : ℕ). n + 2) c.count.ensures.value)
    (none_read form bytes (g.L.FormLines.items c.lines.so_far) c.lines.rest.now
    c.lines.invariant.1 c.in_default.ensures.only)

use Rattle.std.proofs.Common.{◌≡◌, sym, map, ap, ◌∙◌, ◌∷◌, rules, List, ℕ}
use Rattle.std.proofs.lemmas.Int.{to_z-of_z}
use Rattle.std.specs.Int.{w32}
use mir.Val.{SFits, to_z, of_z}
use Rattle.session_file.specs.SessionLines.{setting_word}
use Rattle.session_file.proofs.LineLemmas.{words_found, not_allowed}
use Rattle.session_file.proofs.line.value_of.Goals as goal

pub returns-then-allows-clause-found : goal.returns-then-allows-clause-found
returns-then-allows-clause-found c =
    let fits : SFits w32 c.in_ok-value.value = search rules in
    let back = to_z-of_z w32 c.in_ok-value.value fits in
    let first : c.as_bytes.result.now ≡ setting_word c.args.setting = search rules in
    let spelled = c.in_ok-rest.ensures.found
    ∙ ap (λ (w : List ℕ). w ∷ map (λ w. w.now) c.in_ok-rest.rest.now) first ∙ ap
    (λ (ws : List (List ℕ)). setting_word c.args.setting ∷ ws) c.in_ok-value.ensures.found.0 in
    words_found (map (λ w. w.now) c.args.words.now) c.args.setting c.args.loops c.in_ok-value.value
    (to_z w32 (of_z w32 c.in_ok-value.value)) back spelled
    c.in_ok-value.ensures.found.1 (sym c.allows.ensures ∙ c.if-allows.true)

pub returns-else-allows-clause-only : goal.returns-else-allows-clause-only
returns-else-allows-clause-only c =
    let fits : SFits w32 c.in_ok-value.value = search rules in
    let back = to_z-of_z w32 c.in_ok-value.value fits in
    let first : c.as_bytes.result.now ≡ setting_word c.args.setting = search rules in
    let spelled = c.in_ok-rest.ensures.found
    ∙ ap (λ (w : List ℕ). w ∷ map (λ w. w.now) c.in_ok-rest.rest.now) first ∙ ap
    (λ (ws : List (List ℕ)). setting_word c.args.setting ∷ ws) c.in_ok-value.ensures.found.0 in
    not_allowed (map (λ w. w.now) c.args.words.now) c.args.setting c.args.loops c.in_ok-value.value
    (to_z w32 (of_z w32 c.in_ok-value.value)) back spelled
    c.in_ok-value.ensures.found.1 (sym c.allows.ensures ∙ c.if-allows.false)

-- The loop has made so many empty loops, and these are settings.
use Rattle.std.proofs.Common.{◌≡◌, replicate, arith, ap, ◌∙◌}
use Rattle.sl_commands.specs.Settings.{default_strip}
use Rattle.sl_commands.proofs.SettingsLemmas.{are_default_settings}
use Rattle.sl_commands.proofs.settings.Settings.with_defaults.Goals as goal

pub invariant_of-result : goal.invariant_of-result
invariant_of-result c =
    let all : c.loop.counter ≡ c.args.loops =
    omega (arith, c.loop-test.false, c.loop.auto.counter-end) in
    are_default_settings c.args.rate c.args.loops _ _ c.default-2.ensures
    (c.loop.invariant ∙ ap (λ n. replicate n default_strip) all)
    c.requires.rate c.requires.loops

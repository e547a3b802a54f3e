-- Settings with all controls as they begin.
use Rattle.std.proofs.Common.{◌≡◌, ℕ, zero, suc, true, ◌<◌, refl, List, replicate, length, arith, ap, ◌∙◌}
use Rattle.std.proofs.Math.Dec.{leb-zero}
use Rattle.std.proofs.lemmas.Bool.{lt-ltb}
use Rattle.std.proofs.lemmas.List.{length-replicate}
use Rattle.sl_commands.specs.declared.settings.Globals.{Globals}
use Rattle.sl_commands.specs.declared.settings.StripSettings.{StripSettings}
use Rattle.sl_commands.specs.Settings.{default_strip, default_globals, are_strips, are_globals, is_rate, is_loop_count, are_settings, default_settings}

-- empty loops are loops
pub are_strips-replicate : (loops : ℕ) → are_strips (replicate loops default_strip) ≡ true
are_strips-replicate zero = refl
are_strips-replicate (suc n) = are_strips-replicate n

-- the looper's controls begin within their ranges
pub are_globals-default : (loops : ℕ) → 0 < loops → are_globals loops default_globals ≡ true
are_globals-default loops some = simp (leb-zero loops, lt-ltb 0 loops some) refl

-- there is a loop
pub some_loop : (loops : ℕ) → is_loop_count loops ≡ true → 0 < loops
some_loop loops counted = grind arith

-- so many empty loops are settings
pub are_settings-default : (rate loops : ℕ) → is_rate rate ≡ true → is_loop_count loops ≡ true →
    are_settings (default_settings rate loops) ≡ true
are_settings-default rate loops rated counted =
    rw (
      length-replicate loops default_strip,
      are_globals-default loops (some_loop loops counted),
      are_strips-replicate loops,
      counted,
      rated,
    ) refl

-- the same of a looper's strips and controls, and the number of loops is that of the strips
pub are_default_settings :
    (rate loops : ℕ) (globals : Globals) (strips : List StripSettings) → globals ≡ default_globals →
    strips ≡ replicate loops default_strip
    → is_rate rate ≡ true → is_loop_count loops ≡ true
    → (loops ≡ length strips)
    × (are_settings (record { rate = rate; globals = globals; strips = strips }) ≡ true)
are_default_settings rate loops globals strips same_globals same_strips rated counted = (
  rw (same_strips, length-replicate loops default_strip) refl,
  ap (λ g. are_settings (record { rate = rate; globals = g; strips = strips })) same_globals
      ∙ ap (λ ss. are_settings (record { rate = rate; globals = default_globals; strips = ss }))
      same_strips
      ∙ are_settings-default rate loops rated counted,
)

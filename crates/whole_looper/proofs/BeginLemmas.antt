-- A new looper's tracks are as many as its settings say.
use Rattle.std.proofs.Common.{◌≡◌, ℕ, suc, ◌≤◌, true, ◌&&◌, List, [], ◌∷◌, length, nat_le, refl, sym, ap, ◌∙◌, subst, arith}
use Rattle.sl_base.specs.Limits.{max_loops}
use Rattle.sl_base.specs.Sounds.{Sound}
use Rattle.sl_commands.specs.declared.StripSettings.{StripSettings}
use Rattle.std.proofs.lemmas.Bool.{and_parts}
use Rattle.sl_commands.specs.declared.Globals.{Globals}
use Rattle.sl_commands.specs.Settings.{are_strips, is_rate, is_loop_count, are_globals, are_settings}
use Rattle.looper_rules.specs.Run.{first_tracks}
use Rattle.looper_tracks.specs.Tracks.{TracksOf}
use Rattle.whole_looper.specs.Loopers.{IsWithinBounds}

-- what is made of settings
first_count : (ss : List StripSettings) (lists : List (List Sound)) →
    length (first_tracks ss lists) ≡ length ss
first_count [] lists = refl
first_count (s ∷ ss) [] = ap suc (first_count ss [])
first_count (s ∷ ss) (list ∷ lists) = ap suc (first_count ss lists)

-- a new looper is within its bounds
pub new_is_within_bounds :
    (rate : ℕ) (g : Globals) (strips shown : List StripSettings) (lists : List (List Sound))
    (chunks room : ℕ) (t : TracksOf) →
    are_settings (record { rate = rate; globals = g; strips = strips }) ≡ true →
    shown ≡ strips → t ≡ record { chunks = chunks; tracks = first_tracks shown lists } →
    length shown ≤ room → IsWithinBounds g t room
new_is_within_bounds rate g strips shown lists chunks room t valid same is fits =
    let four =
    and_parts (is_rate rate && is_loop_count (length strips) && are_globals (length strips) g)
    (are_strips strips) valid
    in let three =
    and_parts (is_rate rate && is_loop_count (length strips)) (are_globals (length strips) g)
    four.0
    in let two = and_parts (is_rate rate) (is_loop_count (length strips)) three.0
    in let counts = and_parts (nat_le 1 (length strips)) (nat_le (length strips) max_loops) two.1
    in let some : 1 ≤ length strips = search (arith, counts.0)
    in let few : length strips ≤ 16 = search (arith, counts.1)
    in let count : length t.tracks ≡ length strips = ap (λ (u : TracksOf). length u.tracks) is
    ∙ first_count shown lists ∙ ap length same
    in let shown_count : length shown ≡ length strips = ap length same
    in record {
      some = omega arith;
      few = omega arith;
      in_range = subst (λ n. are_globals n g ≡ true) (sym count) three.1;
      faces = omega arith;
    }

-- Writing the lines of a session.
use Rattle.std.proofs.Common.{◌≡◌, ℕ, suc, List, [], ◌∷◌, ◌++◌, length, drop, refl, sym, ap, ◌∙◌}
use Rattle.std.proofs.lemmas.List.{append_assoc}
use Rattle.sl_commands.specs.declared.settings.StripSettings.{StripSettings}
use Rattle.std.specs.Prelude.{pos, codes}
use Rattle.sl_commands.specs.declared.settings.Globals.{Globals}
use Rattle.sl_commands.specs.Settings.{LooperSettings}
use Rattle.session_file.specs.declared.line.Setting.TheVariants.{Rate, Loops, GlobalDry, GlobalSyncSource, GlobalSelectedLoopNum, GlobalFadeStep, GlobalLongPress, GlobalPulse}
use Rattle.session_file.specs.Sessions.{session_text}
use Rattle.text_lines.specs.Lines.{lines_then}
use Rattle.session_file.specs.declared.line.Line.{Line}
use Rattle.session_file.specs.declared.line.Line.TheVariants.{Value, Loop}
use Rattle.session_file.specs.SessionLines.{line_text, loop_lines, lines_of}

-- lines behind lines
pub lines_then-append : (lines : List Line) (rest : List ℕ) →
    lines_then line_text lines rest ≡ lines_then line_text lines [] ++ rest
lines_then-append [] rest = refl
lines_then-append (l ∷ lines) rest =
    ap (λ (t : List ℕ). line_text l ++ (10 ∷ t)) (lines_then-append lines rest)
    ∙ sym (append_assoc (line_text l) (10 ∷ lines_then line_text lines []) rest)

lines_then-split : (lines more : List Line) (rest : List ℕ) →
    lines_then line_text (lines ++ more) rest ≡ lines_then line_text lines []
    ++ lines_then line_text more rest
lines_then-split [] more rest = refl
lines_then-split (l ∷ lines) more rest =
    ap (λ (t : List ℕ). line_text l ++ (10 ∷ t)) (lines_then-split lines more rest)
    ∙ sym (append_assoc (line_text l) (10 ∷ lines_then line_text lines [])
    (lines_then line_text more rest))

-- the lines of rate and loops, of the first three of the looper's own values, and of the other
-- three
abbrev pub front_lines : LooperSettings → List Line
front_lines s = Value Rate (pos s.rate) ∷ Value Loops (pos (length s.strips)) ∷ []

abbrev pub mix_lines : Globals → List Line
mix_lines g = Value GlobalDry (pos g.dry) ∷ Value GlobalSyncSource g.sync_source
    ∷ Value GlobalSelectedLoopNum (pos g.selected_loop_num) ∷ []

abbrev pub time_lines : Globals → List Line
time_lines g = Value GlobalFadeStep (pos g.fade_step) ∷ Value GlobalLongPress (pos g.long_press)
    ∷ Value GlobalPulse (pos g.pulse) ∷ []

-- what is written one after another is the session
pub session_written :
    (s : LooperSettings) (h a b c d e : List ℕ) → h ≡ codes "looper session 1\n" →
    a ≡ h ++ lines_then line_text (front_lines s) [] →
    b ≡ a ++ lines_then line_text (mix_lines s.globals) []
    → c ≡ b ++ lines_then line_text (time_lines s.globals) [] →
    d ≡ c ++ lines_then line_text (loop_lines 0 s.strips) [] → e ≡ d ++ codes "end\n" →
    e ≡ session_text s
session_written s h a b c d e is_h is_a is_b is_c is_d is_e =
    let header : List ℕ = codes "looper session 1\n" in
    let last : List ℕ = codes "end\n" in
    let front : List ℕ = lines_then line_text (front_lines s) [] in
    let mix : List ℕ = lines_then line_text (mix_lines s.globals) [] in
    let times : List ℕ = lines_then line_text (time_lines s.globals) [] in
    let loops : List ℕ = lines_then line_text (loop_lines 0 s.strips) [] in
    let flat : e ≡ ((((header ++ front) ++ mix) ++ times) ++ loops) ++ last =
    is_e ∙ ap (λ (t : List ℕ). t ++ last)
    (is_d ∙ ap (λ (t : List ℕ). t ++ loops)
    (is_c ∙ ap (λ (t : List ℕ). t ++ times)
    (is_b ∙ ap (λ (t : List ℕ). t ++ mix) (is_a ∙ ap (λ (t : List ℕ). t ++ front) is_h)))) in
    let nested : ((((header ++ front) ++ mix) ++ times) ++ loops) ++ last ≡ header
    ++ (front ++ (mix ++ (times ++ (loops ++ last)))) =
    append_assoc (((header ++ front) ++ mix) ++ times) loops last
    ∙ append_assoc ((header ++ front) ++ mix) times (loops ++ last)
    ∙ append_assoc (header ++ front) mix (times ++ (loops ++ last))
    ∙ append_assoc header front (mix ++ (times ++ (loops ++ last))) in
    let fourth : times ++ (loops ++ last) ≡ lines_then line_text
    (time_lines s.globals ++ loop_lines 0 s.strips) last =
    ap (λ (t : List ℕ). times ++ t) (sym (lines_then-append (loop_lines 0 s.strips) last))
    ∙ sym (lines_then-split (time_lines s.globals) (loop_lines 0 s.strips) last) in
    let third : mix ++ (times ++ (loops ++ last)) ≡ lines_then line_text
    (mix_lines s.globals ++ (time_lines s.globals ++ loop_lines 0 s.strips)) last =
    ap (λ (t : List ℕ). mix ++ t) fourth
    ∙ sym (lines_then-split (mix_lines s.globals) (time_lines s.globals ++ loop_lines 0 s.strips)
    last) in
    let second : front ++ (mix ++ (times ++ (loops ++ last))) ≡ lines_then line_text (lines_of s)
    last =
    ap (λ (t : List ℕ). front ++ t) third
    ∙ sym (lines_then-split (front_lines s)
    (mix_lines s.globals ++ (time_lines s.globals ++ loop_lines 0 s.strips)) last) in
    flat ∙ nested ∙ ap (λ (t : List ℕ). header ++ t) second

-- The lines of settings are those of a session, and settings are those of their lines.
use Rattle.std.proofs.Common.{◌≡◌, ℕ, suc, ◌+◌, ◌<◌, ◌≤◌, ◌^◌, List, [], ◌∷◌, ◌++◌, length, refl, sym, ap, ◌∙◌, subst, arith, leb}
use Rattle.std.specs.Prelude.{ℤ, pos, negsuc, unsigned_abs, IsTrue, ◌&&◌, ◌==◌}
use Rattle.std.specs.List.{list_all}
use Rattle.std.proofs.lemmas.Bool.{and_parts, leb-true, ltb-true, eqb-true, eq-eqb}
use Rattle.std.proofs.lemmas.List.{length-append}
use Rattle.sl_base.specs.Limits.{max_rate, max_list_frames}
use Rattle.sl_commands.specs.declared.settings.Globals.{Globals}
use Rattle.sl_commands.specs.declared.settings.StripSettings.{StripSettings}
use Rattle.sl_commands.specs.declared.fault.ReadText.{ReadText}
use Rattle.sl_commands.specs.declared.fault.ReadText.TheVariants.{Fault, Memory}
use Rattle.sl_commands.specs.declared.control.Control.TheVariants.{Dry, SyncSource, SelectedLoopNum, FadeStep, LongPress, Pulse}
use Rattle.sl_commands.specs.Controls.{is_in_range}
use Rattle.sl_commands.specs.Settings.{LooperSettings, is_rate, is_loop_count, are_globals, are_strips, are_settings, is_strip}
use Rattle.text_lines.specs.FirstFaults.{MayAllFollow, IsText}
use Rattle.text_lines.proofs.ReadingLemmas.{text_is_one, text_has_no_fault}
use Rattle.session_file.specs.declared.line.Setting.TheVariants.{Rate, Loops}
use Rattle.session_file.specs.declared.line.Line.{Line}
use Rattle.session_file.specs.declared.line.Line.TheVariants.{Value, Loop}
use Rattle.session_file.specs.SessionLines.{loops_said, lines_of, loop_lines, global_lines, IsDue, is_in_place}
use Rattle.session_file.specs.Sessions.{session_form, IsSession, IsReason}
use Rattle.session_file.specs.Readings.{DeniesAll}
use Rattle.session_file.proofs.ReadingLemmas.{loop_is_due, said_stays, length-loop_lines}
use Rattle.session_file.proofs.WrongLemmas.{sessions_are_settled}

-- the values of the looper's own settings, one by one
pub record GlobalParts (loops : ℕ) (g : Globals) : Type 0 where
  pub dry : IsTrue (is_in_range Dry (pos g.dry) loops)
  pub sync_source : IsTrue (is_in_range SyncSource g.sync_source loops)
  pub selected : IsTrue (is_in_range SelectedLoopNum (pos g.selected_loop_num) loops)
  pub fade_step : IsTrue (is_in_range FadeStep (pos g.fade_step) loops)
  pub long_press : IsTrue (is_in_range LongPress (pos g.long_press) loops)
  pub pulse : IsTrue (is_in_range Pulse (pos g.pulse) loops)

pub global_parts : (loops : ℕ) (g : Globals) → IsTrue (are_globals loops g) → GlobalParts loops g
global_parts loops g are =
    let dry = is_in_range Dry (pos g.dry) loops in
    let sync = is_in_range SyncSource g.sync_source loops in
    let selected = is_in_range SelectedLoopNum (pos g.selected_loop_num) loops in
    let fade = is_in_range FadeStep (pos g.fade_step) loops in
    let long = is_in_range LongPress (pos g.long_press) loops in
    let pulse = is_in_range Pulse (pos g.pulse) loops in
    let five = and_parts (dry && sync && selected && fade && long) pulse are in
    let four = and_parts (dry && sync && selected && fade) long five.0 in
    let three = and_parts (dry && sync && selected) fade four.0 in
    let two = and_parts (dry && sync) selected three.0 in
    let one = and_parts dry sync two.0 in
    record {
      dry = one.0;
      sync_source = one.1;
      selected = two.1;
      fade_step = three.1;
      long_press =
          four.1;
      pulse = five.1;
    }

-- the same of settings
pub record SettingsParts (s : LooperSettings) : Type 0 where
  pub rate : IsTrue (is_rate s.rate)
  pub loops : IsTrue (is_loop_count (length s.strips))
  pub globals : GlobalParts (length s.strips) s.globals
  pub strips : IsTrue (are_strips s.strips)

pub settings_parts : (s : LooperSettings) → IsTrue (are_settings s) → SettingsParts s
settings_parts s are =
    let three = and_parts (is_rate s.rate && is_loop_count (length s.strips)
    && are_globals (length s.strips) s.globals) (are_strips s.strips) are in
    let two = and_parts (is_rate s.rate && is_loop_count (length s.strips))
    (are_globals (length s.strips) s.globals) three.0 in
    let one = and_parts (is_rate s.rate) (is_loop_count (length s.strips)) two.0 in
    record {
      rate = one.0;
      loops = one.1;
      globals = global_parts (length s.strips) s.globals two.1;
      strips = three.1;
    }

-- a number between two others is short
short_between : (least n most : ℕ) → most < 10 ^ 19 → IsTrue (leb least n && leb n most) →
    n < 10 ^ 19
short_between least n most short is =
    omega (arith, leb-true n most (and_parts (leb least n) (leb n most) is).1)

-- so is one of sync_source
short_source : (loops : ℕ) (z : ℤ) → loops ≤ 16 → IsTrue (is_in_range SyncSource z loops) →
    unsigned_abs z < 10 ^ 19
short_source loops (pos n) few is = omega (arith, leb-true n loops is)
short_source loops (negsuc n) few is = (let e : n ≡ 2 = eqb-true n 2 is in omega arith)

-- so is a loop's number
short_selected : (loops n : ℕ) → loops ≤ 16 → IsTrue (is_in_range SelectedLoopNum (pos n) loops) →
    n < 10 ^ 19
short_selected loops n few is = omega (arith, ltb-true n loops is)

-- a number is itself, by the test
same_number : (n : ℕ) → IsTrue (n == n)
same_number n = eq-eqb n n refl

-- the lines of loops follow
loops_follow :
    (before : List Line) (index : ℕ) (strips : List StripSettings) → length before ≡ 8 + index →
    loops_said before ≡ index + length strips → index + length strips ≤ 16 →
    IsTrue (are_strips strips)
    → MayAllFollow session_form before (loop_lines index strips)
loops_follow before index [] place said few are = tt
loops_follow before index (s ∷ strips) place said few are =
    let parts = and_parts (is_strip s) (list_all is_strip strips) are in
    let in_place : IsTrue (is_in_place (length before) (Loop index s)) =
    subst (λ n. IsTrue (is_in_place n (Loop index s))) (sym place) (same_number (8 + index)) in (
      record {
        room = omega arith;
        due = subst (λ d. IsDue d (Loop index s)) (sym (loop_is_due before (omega arith))) tt;
        values = (omega arith, parts.0);
        place = in_place;
      },
      loops_follow (before ++ Loop index s ∷ []) (suc index) strips
          (length-append before (Loop index s ∷ []) ∙ omega arith)
          (said_stays before (Loop index s ∷ []) (omega arith) ∙ said ∙ omega arith) (omega arith)
          parts.1,
    )

-- the lines of settings follow
settings_follow : (s : LooperSettings) → IsTrue (are_settings s) →
    MayAllFollow session_form [] (lines_of s)
settings_follow s are =
    let parts = settings_parts s are in
    let few : length s.strips ≤ 16 = leb-true (length s.strips) 16
    (and_parts (leb 1 (length s.strips)) (leb (length s.strips) 16) parts.loops).1 in
    let rate : s.rate < 10 ^ 19 = short_between 1 s.rate max_rate (omega arith) parts.rate in
    let dry : s.globals.dry < 10 ^ 19 =
    short_between 0 s.globals.dry 1000 (omega arith) parts.globals.dry in
    let source = short_source (length s.strips) s.globals.sync_source few
    parts.globals.sync_source in
    let selected = short_selected (length s.strips) s.globals.selected_loop_num few
    parts.globals.selected in
    let fade : s.globals.fade_step < 10 ^ 19 =
    short_between 1 s.globals.fade_step 1000 (omega arith) parts.globals.fade_step in
    let long : s.globals.long_press < 10 ^ 19 = short_between 0 s.globals.long_press max_list_frames
    (omega arith) parts.globals.long_press in
    let pulse : s.globals.pulse < 10 ^ 19 =
    short_between 1 s.globals.pulse max_list_frames (omega arith) parts.globals.pulse in (
      record { room = omega arith; due = refl; values = (rate, parts.rate); place = refl },
      (
        record {
          room = omega arith;
          due = refl;
          values = (omega arith, parts.loops);
          place =
              refl;
        },
        (
          record {
            room = omega arith;
            due = refl;
            values = (dry, parts.globals.dry);
            place =
                refl;
          },
          (
            record {
              room = omega arith;
              due = refl;
              values = (source, parts.globals.sync_source);
              place = refl;
            },
            (
              record {
                room = omega arith;
                due = refl;
                values = (selected, parts.globals.selected);
                place = refl;
              },
              (
                record {
                  room = omega arith;
                  due = refl;
                  values = (fade, parts.globals.fade_step);
                  place = refl;
                },
                (
                  record {
                    room = omega arith;
                    due = refl;
                    values =
                        (long, parts.globals.long_press);
                    place = refl;
                  },
                  (
                    record {
                      room = omega arith;
                      due = refl;
                      values = (pulse, parts.globals.pulse);
                      place = refl;
                    },
                    loops_follow (Value Rate (pos s.rate) ∷ Value Loops (pos (length s.strips))
                        ∷ global_lines s.globals) 0 s.strips refl
                        (let e : length s.strips ≡ 0 + length s.strips = omega arith in e)
                        (omega arith) parts.strips,
                  ),
                ),
              ),
            ),
          ),
        ),
      ),
    )

-- a session is the text of its lines
pub session_is_text : (bytes : List ℕ) (s : LooperSettings) → IsSession bytes s →
    IsText session_form bytes (lines_of s)
session_is_text bytes s is = record {
  follow = settings_follow s is.valid;
  due = ap (λ n. suc (suc (suc (suc (suc (suc (suc (suc n)))))))) (length-loop_lines 0 s.strips)
      ∙ (let e : suc (suc (suc (suc (suc (suc (suc (suc (length s.strips)))))))) ≡ 8
      + length s.strips = omega arith in e);
  spelled = is.spelled;
}

-- loops of the same lines are the same
strips_are_one : (index : ℕ) (strips others : List StripSettings) →
    loop_lines index strips ≡ loop_lines index others → strips ≡ others
strips_are_one index [] [] same = refl
strips_are_one index [] (t ∷ others) same = absurd (Prim.cc)
strips_are_one index (s ∷ strips) [] same = absurd (Prim.cc)
strips_are_one index (s ∷ strips) (t ∷ others) same =
    let first : s ≡ t = cc same in
    let rest : loop_lines (suc index) strips ≡ loop_lines (suc index) others = cc same in
    ap (λ (u : StripSettings). u ∷ strips) first
    ∙ ap (λ (us : List StripSettings). t ∷ us) (strips_are_one (suc index) strips others rest)

-- the looper's own settings of the same lines are the same
same_globals : (g h : Globals) → g.dry ≡ h.dry → g.sync_source ≡ h.sync_source →
    g.selected_loop_num ≡ h.selected_loop_num → g.fade_step ≡ h.fade_step →
    g.long_press ≡ h.long_press → g.pulse ≡ h.pulse → g ≡ h
same_globals g h dries sources selecteds fades longs pulses =
    let with_dry : ℕ →
    Globals = λ n. record {
      dry = n;
      sync_source = g.sync_source;
      selected_loop_num =
          g.selected_loop_num;
      fade_step = g.fade_step;
      long_press = g.long_press;
      pulse =
          g.pulse;
    } in
    let with_source : ℤ →
    Globals = λ z. record {
      dry = h.dry;
      sync_source = z;
      selected_loop_num =
          g.selected_loop_num;
      fade_step = g.fade_step;
      long_press = g.long_press;
      pulse =
          g.pulse;
    } in
    let with_selected : ℕ →
    Globals = λ n. record {
      dry = h.dry;
      sync_source = h.sync_source;
      selected_loop_num =
          n;
      fade_step = g.fade_step;
      long_press = g.long_press;
      pulse = g.pulse;
    } in
    let with_fade : ℕ →
    Globals = λ n. record {
      dry = h.dry;
      sync_source = h.sync_source;
      selected_loop_num =
          h.selected_loop_num;
      fade_step = n;
      long_press = g.long_press;
      pulse = g.pulse;
    } in
    let with_long : ℕ →
    Globals = λ n. record {
      dry = h.dry;
      sync_source = h.sync_source;
      selected_loop_num =
          h.selected_loop_num;
      fade_step = h.fade_step;
      long_press = n;
      pulse = g.pulse;
    } in
    let with_pulse : ℕ →
    Globals = λ n. record {
      dry = h.dry;
      sync_source = h.sync_source;
      selected_loop_num =
          h.selected_loop_num;
      fade_step = h.fade_step;
      long_press = h.long_press;
      pulse = n;
    } in
    ap with_dry dries ∙ ap with_source sources ∙ ap with_selected selecteds ∙ ap with_fade fades
    ∙ ap with_long longs ∙ ap with_pulse pulses

-- settings of the same lines are the same
lines_are_of_one : (s t : LooperSettings) → lines_of s ≡ lines_of t → s ≡ t
lines_are_of_one s t same =
    let rates : s.rate ≡ t.rate = cc same in
    let dries : s.globals.dry ≡ t.globals.dry = cc same in
    let sources : s.globals.sync_source ≡ t.globals.sync_source = cc same in
    let selecteds : s.globals.selected_loop_num ≡ t.globals.selected_loop_num = cc same in
    let fades : s.globals.fade_step ≡ t.globals.fade_step = cc same in
    let longs : s.globals.long_press ≡ t.globals.long_press = cc same in
    let pulses : s.globals.pulse ≡ t.globals.pulse = cc same in
    let loops : loop_lines 0 s.strips ≡ loop_lines 0 t.strips = cc same in
    let with_rate : ℕ → LooperSettings =
    λ n. record { rate = n; globals = s.globals; strips = s.strips } in
    let with_globals : Globals → LooperSettings =
    λ g. record { rate = t.rate; globals = g; strips = s.strips } in
    let with_strips : List StripSettings → LooperSettings =
    λ ss. record { rate = t.rate; globals = t.globals; strips = ss } in
    ap with_rate rates
    ∙ ap with_globals (same_globals s.globals t.globals dries sources selecteds fades longs
    pulses) ∙ ap with_strips (strips_are_one 0 s.strips t.strips loops)

-- bytes are the session of one
pub session_is_one : (bytes : List ℕ) (s t : LooperSettings) → IsSession bytes s →
    IsSession bytes t → t ≡ s
session_is_one bytes s t is is_too =
    lines_are_of_one t s (text_is_one session_form sessions_are_settled bytes (lines_of t)
    (lines_of s) (session_is_text bytes t is_too) (session_is_text bytes s is))

-- bytes with a fault are the session of none
pub reason_denies : (bytes : List ℕ) (why : ReadText) → IsReason bytes why →
    DeniesAll (λ s. IsSession bytes s) why
reason_denies bytes (Fault fault) reason = λ s is.
    text_has_no_fault session_form sessions_are_settled bytes (lines_of s) fault.line fault.kind
    (session_is_text bytes s is) reason
reason_denies bytes Memory reason = absurd reason

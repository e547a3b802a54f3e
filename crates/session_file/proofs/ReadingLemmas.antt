-- What reading the lines of a session tells of the whole.
use Rattle.std.proofs.Common.{◌≡◌, ◌≢◌, ◌==◌, ℕ, suc, ◌+◌, ◌<◌, ◌≤◌, ◌^◌, true, false, Bool, List, [], ◌∷◌, ◌++◌, length, refl, sym, ap, ◌∙◌, subst, arith}
use Rattle.std.specs.Prelude.{IsTrue, Some, None}
use Rattle.std.specs.List.{list_all}
use Rattle.std.proofs.lemmas.Bool.{eqb-true, false≢true, ne_eqb, and_parts, and_from}
use Rattle.std.proofs.lemmas.List.{append_assoc, length-append}
use Rattle.sl_commands.specs.declared.settings.StripSettings.{StripSettings}
use Rattle.sl_commands.specs.declared.fault.TextFault.{TextFault}
use Rattle.sl_commands.specs.declared.fault.TextKind.{TextKind}
use Rattle.sl_commands.specs.declared.fault.TextKind.TheVariants.{Header, Form, Value, Order, TooMany, Ending}
use Rattle.sl_commands.specs.Settings.{is_strip, are_strips}
use Rattle.text_lines.specs.Lines.{Lacks, IsCutAt, end_word}
use Rattle.text_lines.specs.FirstFaults.{IsReadUpTo}
use Rattle.text_lines.proofs.LoopLemmas.{wrong_read, none_read, more_read}
use Rattle.session_file.specs.declared.line.Setting.{Setting}
use Rattle.session_file.specs.declared.line.Line.{Line}
use Rattle.session_file.specs.declared.line.Line.TheVariants.{Value as ValueLine, Loop}
use Rattle.session_file.specs.SessionLines.{line_text, HasValues, IsDue, due_behind, loops_said, loop_lines}
use Rattle.session_file.specs.Sessions.{HasNoValues, one_too_many, no_values, no_place, session_form, lines_due}
use Rattle.session_file.specs.Readings.{Front, IsFirst}
use Rattle.session_file.proofs.WrongLemmas.{first_at, wrong_first}

-- bytes of which there are none, by the test
pub none_by_test : (bytes : List ℕ) (test : Bool) → test ≡ (length bytes == 0) → test ≡ true →
    bytes ≡ []
none_by_test [] test is passed = refl
none_by_test (b ∷ bytes) test is passed =
    (let zero_long : length (b ∷ bytes) ≡ 0 = eqb-true (length (b ∷ bytes)) 0 (sym is ∙ passed) in
    absurd (omega arith))

pub some_by_test : (bytes : List ℕ) (test : Bool) → test ≡ (length bytes == 0) → test ≡ false →
    bytes ≢ []
some_by_test bytes test is failed none =
    false≢true (sym failed ∙ is ∙ ap (λ (bs : List ℕ). length bs == 0) none)

-- no line is left
pub none_first : (f : Front) (fault : TextFault) → IsReadUpTo session_form f.bytes f.lines f.rest →
    Lacks 10 f.rest → fault.line ≡ length f.lines + 2 → fault.kind ≡ Ending → IsFirst f.bytes fault
none_first f fault read lacks same same_kind = first_at f.bytes (length f.lines + 2) Ending fault
    same same_kind (none_read session_form f.bytes f.lines f.rest read lacks)

-- another line stands where `end` is due
pub end_wrong :
    (f : Front) (line behind : List ℕ) (fault : TextFault) → IsReadUpTo session_form f.bytes f.lines
    f.rest → IsCutAt 10 f.rest line behind → length f.lines ≡ lines_due f.lines → line ≢ end_word
    → fault.line ≡ length f.lines + 2 → fault.kind ≡ TooMany → IsFirst f.bytes fault
end_wrong f line behind fault read cut due apart same same_kind =
    first_at f.bytes (length f.lines + 2) TooMany fault same same_kind
    (wrong_read session_form f.bytes f.lines f.rest line behind TooMany read cut (λ _. apart)
    (one_too_many (omega arith) refl))

-- something follows `end`
pub end_more :
    (f : Front) (line behind : List ℕ) (fault : TextFault) →
    IsReadUpTo session_form f.bytes f.lines f.rest → IsCutAt 10 f.rest line behind →
    length f.lines ≡ lines_due f.lines → line ≡ end_word → behind ≢ []
    → fault.line ≡ length f.lines + 3 → fault.kind ≡ Ending → IsFirst f.bytes fault
end_more f line behind fault read cut due is some same same_kind =
    first_at f.bytes (length f.lines + 3) Ending fault same same_kind
    (more_read session_form f.bytes f.lines f.rest line behind read cut is due some)

-- a setting's line is wrong
pub value_wrong :
    (f : Front) (setting : Setting) (loops : ℕ) (line behind : List ℕ) (kind : TextKind)
    (fault : TextFault) → IsReadUpTo session_form f.bytes f.lines f.rest →
    IsCutAt 10 f.rest line behind
    → due_behind f.lines ≡ Some setting → loops_said f.lines ≡ loops → length f.lines < 8 →
    HasNoValues (Some setting) loops line kind
    → fault.line ≡ length f.lines + 2 → fault.kind ≡ kind → IsFirst f.bytes fault
value_wrong f setting loops line behind kind fault read cut due said few none same same_kind =
    let room : length f.lines < lines_due f.lines = omega arith in
    let here : HasNoValues (due_behind f.lines) (loops_said f.lines) line kind =
    subst (λ d. HasNoValues d (loops_said f.lines) line kind) (sym due)
    (subst (λ n. HasNoValues (Some setting) n line kind) (sym said) none) in
    wrong_first f.bytes f.lines f.rest line behind kind fault read cut room (no_values room here)
    same same_kind

-- behind eight lines a loop is due
pub loop_is_due : (lines : List Line) → 8 ≤ length lines → due_behind lines ≡ None
loop_is_due [] long = absurd (omega arith)
loop_is_due (a ∷ []) long = absurd (omega arith)
loop_is_due (a ∷ b ∷ []) long = absurd (omega arith)
loop_is_due (a ∷ b ∷ c ∷ []) long = absurd (omega arith)
loop_is_due (a ∷ b ∷ c ∷ d ∷ []) long = absurd (omega arith)
loop_is_due (a ∷ b ∷ c ∷ d ∷ e ∷ []) long = absurd (omega arith)
loop_is_due (a ∷ b ∷ c ∷ d ∷ e ∷ f ∷ []) long = absurd (omega arith)
loop_is_due (a ∷ b ∷ c ∷ d ∷ e ∷ f ∷ g ∷ []) long = absurd (omega arith)
loop_is_due (a ∷ b ∷ c ∷ d ∷ e ∷ f ∷ g ∷ h ∷ lines) long = refl

-- the values of a loop's line don't ask how many loops there are
loop_values : (loops : ℕ) (l : Line) → IsDue None l → HasValues loops l → HasValues 0 l
loop_values loops (ValueLine setting z) due has = absurd due
loop_values loops (Loop index s) due has = has

any_loops : (loops : ℕ) (line : List ℕ) (kind : TextKind) → HasNoValues None 0 line kind →
    HasNoValues None loops line kind
any_loops loops line Form none = none
any_loops loops line Value none = (none.0, λ l due has. none.1 l due (loop_values loops l due has))
any_loops loops line Header none = absurd none
any_loops loops line Order none = absurd none
any_loops loops line TooMany none = absurd none
any_loops loops line Ending none = absurd none

-- a loop's line is wrong
pub strip_wrong :
    (f : Front) (index loops : ℕ) (line behind : List ℕ) (kind : TextKind) (fault : TextFault) →
    IsReadUpTo session_form f.bytes f.lines f.rest → IsCutAt 10 f.rest line behind
    → loops_said f.lines ≡ loops → length f.lines ≡ 8 + index → index < loops →
    HasNoValues None 0 line kind
    → fault.line ≡ length f.lines + 2 → fault.kind ≡ kind → IsFirst f.bytes fault
strip_wrong f index loops line behind kind fault read cut said place few none same same_kind =
    let room : length f.lines < lines_due f.lines = omega arith in
    let here : HasNoValues (due_behind f.lines) (loops_said f.lines) line kind =
    subst (λ d. HasNoValues d (loops_said f.lines) line kind)
    (sym (loop_is_due f.lines (omega arith))) (any_loops (loops_said f.lines) line kind none) in
    wrong_first f.bytes f.lines f.rest line behind kind fault read cut room (no_values room here)
    same same_kind

-- a loop's line is out of order
pub strip_order :
    (f : Front) (index loops said : ℕ) (s : StripSettings) (line behind : List ℕ)
    (fault : TextFault) → IsReadUpTo session_form f.bytes f.lines f.rest →
    IsCutAt 10 f.rest line behind
    → loops_said f.lines ≡ loops → length f.lines ≡ 8 + index → index < loops →
    line ≡ line_text (Loop said s) → said < 10 ^ 19 → IsTrue (is_strip s) → said ≢ index
    → fault.line ≡ length f.lines + 2 → fault.kind ≡ Order → IsFirst f.bytes fault
strip_order f index loops said s line behind fault read cut loops_are place few spelled short is
    apart same same_kind =
    let room : length f.lines < lines_due f.lines = omega arith in
    let due : IsDue (due_behind f.lines) (Loop said s) =
    subst (λ d. IsDue d (Loop said s)) (sym (loop_is_due f.lines (omega arith))) tt in
    let out : (8 + said == length f.lines) ≡ false =
    ne_eqb (8 + said) (length f.lines) (λ e. apart (omega arith)) in
    wrong_first f.bytes f.lines f.rest line behind Order fault read cut room
    (no_place room (Loop said s) due (short, is) spelled out refl) same same_kind

-- the second line stays
pub said_stays : (lines more : List Line) → 2 ≤ length lines →
    loops_said (lines ++ more) ≡ loops_said lines
said_stays [] more long = absurd (omega arith)
said_stays (a ∷ []) more long = absurd (omega arith)
said_stays (a ∷ b ∷ lines) more long = refl

-- each loop has a line
pub length-loop_lines : (index : ℕ) (strips : List StripSettings) →
    length (loop_lines index strips) ≡ length strips
length-loop_lines index [] = refl
length-loop_lines index (s ∷ strips) = ap suc (length-loop_lines (suc index) strips)

-- the line of one more loop
loop_lines-push : (index : ℕ) (strips : List StripSettings) (s : StripSettings) →
    loop_lines index (strips ++ s ∷ []) ≡ loop_lines index strips ++ Loop (index + length strips) s
    ∷ []
loop_lines-push index [] s = ap (λ i. Loop i s ∷ []) (omega arith)
loop_lines-push index (t ∷ strips) s =
    ap (λ (ls : List Line). Loop index t ∷ ls)
    (loop_lines-push (suc index) strips s ∙ ap (λ i. loop_lines (suc index) strips ++ Loop i s ∷ [])
    (omega arith))

pub loop_pushed :
    (before lines : List Line) (strips : List StripSettings) (s : StripSettings) (index : ℕ) →
    lines ≡ before ++ loop_lines 0 strips → length strips ≡ index
    → lines ++ Loop index s ∷ [] ≡ before ++ loop_lines 0 (strips ++ s ∷ [])
loop_pushed before lines strips s index are count =
    ap (λ (ls : List Line). ls ++ Loop index s ∷ []) are
    ∙ append_assoc before (loop_lines 0 strips) (Loop index s ∷ [])
    ∙ ap (λ i. before ++ (loop_lines 0 strips ++ Loop i s ∷ []))
    (let e : index ≡ 0 + length strips = omega arith in e)
    ∙ sym (ap (λ (ls : List Line). before ++ ls) (loop_lines-push 0 strips s))

-- how many lines were read then
pub loops_read : (before lines : List Line) (strips : List StripSettings) (index : ℕ) →
    lines ≡ before ++ loop_lines 0 strips → length strips ≡ index → length before ≡ 8 →
    length lines ≡ 8 + index
loops_read before lines strips index are count eight =
    let lengths : length lines ≡ length before + length (loop_lines 0 strips) =
    ap length are ∙ length-append before (loop_lines 0 strips) in
    let loops : length (loop_lines 0 strips) ≡ length strips = length-loop_lines 0 strips in
    omega arith

-- one more is one more
pub length-push : (strips after : List StripSettings) (s : StripSettings) (index : ℕ) →
    after ≡ strips ++ s ∷ [] → length strips ≡ index → length after ≡ index + 1
length-push strips after s index are count =
    let lengths : length after ≡ length strips + 1 =
    ap length are ∙ length-append strips (s ∷ []) in omega arith

-- one more loop in its ranges
pub are_strips-push : (strips : List StripSettings) (s : StripSettings) →
    IsTrue (are_strips strips) → IsTrue (is_strip s) → IsTrue (are_strips (strips ++ s ∷ []))
are_strips-push [] s are is = and_from (is_strip s) true is refl
are_strips-push (t ∷ strips) s are is =
    let parts = and_parts (is_strip t) (list_all is_strip strips) are in
    and_from (is_strip t) (list_all is_strip (strips ++ s ∷ [])) parts.0
    (are_strips-push strips s parts.1 is)

-- behind the last loop `end` is due
pub end_is_due :
    (before lines : List Line) (strips : List StripSettings) (loops : ℕ) →
    lines ≡ before ++ loop_lines 0 strips → length before ≡ 8 → loops_said before ≡ loops →
    length strips ≡ loops → length lines ≡ lines_due lines
end_is_due before lines strips loops are eight said count =
    let place = loops_read before lines strips loops are count eight in
    let still : loops_said lines ≡ loops =
    ap loops_said are ∙ said_stays before (loop_lines 0 strips) (omega arith) ∙ said in
    omega arith

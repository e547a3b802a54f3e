-- The words, the form and the text of a line.
use Rattle.std.proofs.Common.{◌≡◌, ◌≢◌, ◌&&◌, ℕ, suc, ◌<◌, ◌^◌, true, false, List, [], ◌∷◌, length, refl, sym, ap, ◌∙◌, subst, arith}
use Rattle.std.specs.Prelude.{ℤ, pos, negsuc, unsigned_abs, IsTrue, Option, Some, None}
use Rattle.std.specs.List.{AllByRecursion}
use Rattle.std.specs.Str.{bytes_eq}
use Rattle.std.specs.Fmt.{decimal, signed_decimal}
use Rattle.std.proofs.lemmas.Bool.{and_from, false≢true}
use Rattle.std.proofs.Math.Bool.{and-false}
use Rattle.std.proofs.lemmas.List.Splits.{join_with_byte-slice_split}
use Rattle.sl_commands.specs.declared.settings.StripSettings.{StripSettings}
use Rattle.sl_commands.specs.Settings.{is_strip}
use Rattle.text_lines.specs.Lines.{Lacks, words_in, line_of, end_word, IsWord}
use Rattle.text_lines.specs.Numerals.{is_numeral}
use Rattle.text_lines.specs.Shapes.{has_shape, have_shapes}
use Rattle.text_lines.specs.declared.shape.Shape.{Shape}
use Rattle.text_lines.proofs.ShapeLemmas.{not_as_many}
use Rattle.text_lines.proofs.NumeralLemmas.{decimal_has_form}
use Rattle.text_lines.proofs.WordLemmas.{decimal_is_word, signed_is_word, printed_is_word, words_come_back, line_is_whole, signed_has_form, signed_is_one}
use Rattle.session_file.specs.declared.line.Setting.{Setting}
use Rattle.session_file.specs.declared.line.Setting.TheVariants.{Rate, Loops, GlobalDry, GlobalSyncSource, GlobalSelectedLoopNum, GlobalFadeStep, GlobalLongPress, GlobalPulse}
use Rattle.session_file.specs.declared.line.Line.{Line}
use Rattle.session_file.specs.declared.line.Line.TheVariants.{Value, Loop}
use Rattle.session_file.specs.SessionLines.{setting_word, setting_shape, is_value, loop_word, loop_shapes, strip_words, line_words, line_text, HasValues, IsDue, is_form, begin_with}
use Rattle.session_file.specs.Readings.{StripFits}
use Rattle.session_file.proofs.StripLemmas.{strip_parts, strip_words_are_words, strip_is_one, number_is_one}

-- the word of a setting is a word
setting_word_is_word : (setting : Setting) → IsWord (setting_word setting)
setting_word_is_word Rate = printed_is_word (setting_word Rate) refl refl
setting_word_is_word Loops = printed_is_word (setting_word Loops) refl refl
setting_word_is_word GlobalDry = printed_is_word (setting_word GlobalDry) refl refl
setting_word_is_word GlobalSyncSource = printed_is_word (setting_word GlobalSyncSource) refl refl
setting_word_is_word GlobalSelectedLoopNum =
    printed_is_word (setting_word GlobalSelectedLoopNum) refl refl
setting_word_is_word GlobalFadeStep = printed_is_word (setting_word GlobalFadeStep) refl refl
setting_word_is_word GlobalLongPress = printed_is_word (setting_word GlobalLongPress) refl refl
setting_word_is_word GlobalPulse = printed_is_word (setting_word GlobalPulse) refl refl

-- and is the one that is due
setting_word_is_due : (setting : Setting) →
    bytes_eq (setting_word setting) (setting_word setting) ≡ true
setting_word_is_due Rate = refl
setting_word_is_due Loops = refl
setting_word_is_due GlobalDry = refl
setting_word_is_due GlobalSyncSource = refl
setting_word_is_due GlobalSelectedLoopNum = refl
setting_word_is_due GlobalFadeStep = refl
setting_word_is_due GlobalLongPress = refl
setting_word_is_due GlobalPulse = refl

-- a number in its range has the shape that is due
value_has_shape : (loops : ℕ) (setting : Setting) (z : ℤ) → unsigned_abs z < 10 ^ 19 →
    IsTrue (is_value loops setting z) → has_shape (setting_shape setting) (signed_decimal z) ≡ true
value_has_shape loops GlobalSyncSource z short is = signed_has_form z short
value_has_shape loops Rate (pos n) short is = decimal_has_form n short
value_has_shape loops Loops (pos n) short is = decimal_has_form n short
value_has_shape loops GlobalDry (pos n) short is = decimal_has_form n short
value_has_shape loops GlobalSelectedLoopNum (pos n) short is = decimal_has_form n short
value_has_shape loops GlobalFadeStep (pos n) short is = decimal_has_form n short
value_has_shape loops GlobalLongPress (pos n) short is = decimal_has_form n short
value_has_shape loops GlobalPulse (pos n) short is = decimal_has_form n short
value_has_shape loops Rate (negsuc n) short is = absurd (false≢true is)
value_has_shape loops Loops (negsuc n) short is = absurd (false≢true is)
value_has_shape loops GlobalDry (negsuc n) short is = absurd (false≢true is)
value_has_shape loops GlobalSelectedLoopNum (negsuc n) short is = absurd (false≢true is)
value_has_shape loops GlobalFadeStep (negsuc n) short is = absurd (false≢true is)
value_has_shape loops GlobalLongPress (negsuc n) short is = absurd (false≢true is)
value_has_shape loops GlobalPulse (negsuc n) short is = absurd (false≢true is)

-- the numbers of a line have spellings
abbrev pub FitsLine : Line → Type 0
FitsLine (Value setting z) = unsigned_abs z < 10 ^ 19
FitsLine (Loop index s) = (index < 10 ^ 19) × StripFits s

pub values_fit : (loops : ℕ) (l : Line) → HasValues loops l → FitsLine l
values_fit loops (Value setting z) has = has.0
values_fit loops (Loop index s) has = (has.0, (strip_parts s has.1).fits)

-- each word of a line is one
words_are_words : (l : Line) → FitsLine l → AllByRecursion IsWord (line_words l)
words_are_words (Value setting z) fits = (setting_word_is_word setting, (signed_is_word z fits, tt))
words_are_words (Loop index s) fits = (
  printed_is_word loop_word refl refl,
  (decimal_is_word index fits.0, strip_words_are_words s fits.1),
)

some_words : (l : Line) → line_words l ≢ []
some_words (Value setting z) none = Prim.cc
some_words (Loop index s) none = Prim.cc

-- the words of a line are its own
pub line_words_come_back : (l : Line) → FitsLine l → words_in (line_text l) ≡ line_words l
line_words_come_back l fits = words_come_back (line_words l) (some_words l) (words_are_words l fits)

-- a line is whole
pub line_text_is_whole : (l : Line) → FitsLine l → Lacks 10 (line_text l)
line_text_is_whole l fits = line_is_whole (line_words l) (words_are_words l fits)

-- two words are those of the same two
two_words : (a b c d : List ℕ) → (a ∷ c ∷ []) ≡ (b ∷ d ∷ []) → c ≡ d
two_words a b c d same = Prim.cc

-- lines that are due and have the same words are one
words_are_of_one : (due : Option Setting) (a b : Line) → IsDue due a → IsDue due b → FitsLine a →
    FitsLine b → line_words a ≡ line_words b → a ≡ b
words_are_of_one (Some s) (Value t z) (Value u y) due due_too fits fits_too same =
    let numbers : signed_decimal z ≡ signed_decimal y = cc same in
    ap (λ setting. Value setting z) (due ∙ sym due_too)
    ∙ ap (Value u) (signed_is_one z y fits fits_too numbers)
words_are_of_one (Some s) (Value t z) (Loop i p) due due_too fits fits_too same = absurd due_too
words_are_of_one (Some s) (Loop i p) _ due due_too fits fits_too same = absurd due
words_are_of_one None (Value t z) _ due due_too fits fits_too same = absurd due
words_are_of_one None (Loop i p) (Value t z) due due_too fits fits_too same = absurd due_too
words_are_of_one None (Loop i p) (Loop j q) due due_too fits fits_too same =
    let indices : decimal i ≡ decimal j = cc same in
    let strips : strip_words p ≡ strip_words q = cc same in
    ap (λ index. Loop index p)
    (number_is_one i j 9999999999999999999 (omega arith) (omega (arith, fits.0))
    (omega (arith, fits_too.0)) indices)
    ∙ ap (Loop j) (strip_is_one p q fits.1 fits_too.1 strips)

-- and so are those of one text
pub line_is_of_one : (due : Option Setting) (a b : Line) → IsDue due a → IsDue due b → FitsLine a →
    FitsLine b → line_text a ≡ line_text b → a ≡ b
line_is_of_one due a b is is_too fits fits_too same =
    words_are_of_one due a b is is_too fits fits_too
    (sym (line_words_come_back a fits) ∙ ap words_in same ∙ line_words_come_back b fits_too)

-- a line is that of its words
pub line_of_its_words : (line : List ℕ) (l : Line) → words_in line ≡ line_words l →
    line ≡ line_text l
line_of_its_words line l same = sym (join_with_byte-slice_split 32 line) ∙ ap line_of same

-- the words of a line that is one
pub words_of_line : (loops : ℕ) (line : List ℕ) (l : Line) → HasValues loops l →
    line ≡ line_text l → words_in line ≡ line_words l
words_of_line loops line l has same =
    ap words_in same ∙ line_words_come_back l (values_fit loops l has)

-- a loop's numbers have the shapes that are due
loop_has_shapes : (index : ℕ) (s : StripSettings) → index < 10 ^ 19 → StripFits s →
    have_shapes loop_shapes (decimal index ∷ strip_words s) ≡ true
loop_has_shapes index s short fits =
    let first : is_numeral (decimal index) ≡ true = decimal_has_form index short in
    let length_form : is_numeral (decimal s.length) ≡ true =
    decimal_has_form s.length (omega (arith, fits.length)) in
    let cycle_form : is_numeral (decimal s.cycle) ≡ true =
    decimal_has_form s.cycle (omega (arith, fits.cycle)) in
    let feedback : is_numeral (decimal s.feedback) ≡ true =
    decimal_has_form s.feedback (omega (arith, fits.feedback)) in
    let wet : is_numeral (decimal s.wet) ≡ true =
    decimal_has_form s.wet (omega (arith, fits.wet)) in
    let round : is_numeral (decimal s.round) ≡ true =
    decimal_has_form s.round (omega (arith, fits.round)) in
    let quantize : is_numeral (decimal s.quantize) ≡ true =
    decimal_has_form s.quantize (omega (arith, fits.quantize)) in
    let thresh : is_numeral (decimal s.rec_thresh) ≡ true =
    decimal_has_form s.rec_thresh (omega (arith, fits.rec_thresh)) in
    rw (first, length_form, cycle_form, feedback, wet, round, quantize, thresh) refl

-- the words of a line that is due have the form
words_have_form : (due : Option Setting) (loops : ℕ) (l : Line) → IsDue due l → HasValues loops l →
    is_form due (line_words l) ≡ true
words_have_form (Some s) loops (Value t z) due has =
    subst (λ (u : Setting). begin_with (setting_word u) (setting_shape u ∷ [])
    (setting_word t ∷ signed_decimal z ∷ []) ≡ true) due
    (and_from (bytes_eq (setting_word t) (setting_word t))
    (has_shape (setting_shape t) (signed_decimal z) && true) (setting_word_is_due t)
    (and_from (has_shape (setting_shape t) (signed_decimal z)) true
    (value_has_shape loops t z has.0 has.1) refl))
words_have_form (Some s) loops (Loop i p) due has = absurd due
words_have_form None loops (Value t z) due has = absurd due
words_have_form None loops (Loop i p) due has = loop_has_shapes i p has.0 (strip_parts p has.1).fits

-- and so has the line
pub line_has_form : (due : Option Setting) (loops : ℕ) (l : Line) → IsDue due l →
    HasValues loops l → is_form due (words_in (line_text l)) ≡ true
line_has_form due loops l is has =
    ap (is_form due) (line_words_come_back l (values_fit loops l has))
    ∙ words_have_form due loops l is has

-- words that begin so, in another number, have not the form
other_count : (due : List ℕ) (shapes : List Shape) (words : List (List ℕ)) →
    suc (length shapes) < length words → begin_with due shapes words ≡ false
other_count due shapes [] long = refl
other_count due shapes (word ∷ words) long = ap (λ b. bytes_eq word due && b)
    (not_as_many shapes words (λ e. omega arith)) ∙ and-false (bytes_eq word due)

-- more than nine words have no form
pub long_has_no_form : (due : Option Setting) (words : List (List ℕ)) → 9 < length words →
    is_form due words ≡ false
long_has_no_form (Some s) words long =
    other_count (setting_word s) (setting_shape s ∷ []) words (omega (arith, long))
long_has_no_form None words long = other_count loop_word loop_shapes words (omega (arith, long))

-- `end` is no setting's line
other_form : (setting : Setting) → is_form (Some setting) (words_in end_word) ≡ false
other_form Rate = refl
other_form Loops = refl
other_form GlobalDry = refl
other_form GlobalSyncSource = refl
other_form GlobalSelectedLoopNum = refl
other_form GlobalFadeStep = refl
other_form GlobalLongPress = refl
other_form GlobalPulse = refl

-- a line isn't `end`
pub line_is_not_end : (due : Option Setting) (loops : ℕ) (l : Line) → IsDue due l →
    HasValues loops l → line_text l ≢ end_word
line_is_not_end (Some s) loops l is has same =
    false≢true (sym (other_form s) ∙ sym (ap (λ t. is_form (Some s) (words_in t)) same)
    ∙ line_has_form (Some s) loops l is has)
line_is_not_end None loops l is has same =
    false≢true (sym (ap (λ t. is_form None (words_in t)) same) ∙ line_has_form None loops l is has)

-- a line whose words are those of no loop is that of none
pub no_loop :
    (line : List ℕ) (words : List (List ℕ)) → words ≡ words_in line
    → ((index : ℕ) (s : StripSettings) → index < 10 ^ 19 → IsTrue (is_strip s) →
    words ≢ line_words (Loop index s))
    → (l : Line) → IsDue None l → HasValues 0 l → line ≢ line_text l
no_loop line words are none (Value setting z) due has same = absurd due
no_loop line words are none (Loop index s) due has same =
    none index s has.0 has.1 (are ∙ words_of_line 0 line (Loop index s) has same)

-- a line whose words are those of no number of a setting is that of none
pub no_value :
    (line : List ℕ) (words : List (List ℕ)) (setting : Setting) (loops : ℕ) → words ≡ words_in line
    → ((z : ℤ) → HasValues loops (Value setting z) → words ≢ line_words (Value setting z))
    → (l : Line) → IsDue (Some setting) l → HasValues loops l → line ≢ line_text l
no_value line words setting loops are none (Value other z) due has same =
    none z (subst (λ s. HasValues loops (Value s z)) due has)
    (are ∙ words_of_line loops line (Value other z) has same
    ∙ ap (λ s. line_words (Value s z)) due)
no_value line words setting loops are none (Loop index s) due has same = absurd due

-- the line of a number that comes back from its machine word
pub value_found :
    (line : List ℕ) (setting : Setting) (loops : ℕ) (z y : ℤ) → y ≡ z →
    words_in line ≡ line_words (Value setting z) → HasValues loops (Value setting z)
    → (line ≡ line_text (Value setting y)) × HasValues loops (Value setting y)
value_found line setting loops z y back same has =
    subst (λ v. (line ≡ line_text (Value setting v)) × HasValues loops (Value setting v)) (sym back)
    (line_of_its_words line (Value setting z) same, has)

-- the words of such a number
pub words_found :
    (words : List (List ℕ)) (setting : Setting) (loops : ℕ) (z y : ℤ) → y ≡ z →
    words ≡ line_words (Value setting z) → unsigned_abs z < 10 ^ 19 →
    IsTrue (is_value loops setting y)
    → (words ≡ line_words (Value setting y)) × HasValues loops (Value setting y)
words_found words setting loops z y back same short is = (
  same ∙ ap (λ v. line_words (Value setting v)) (sym back),
  (subst (λ v. unsigned_abs v < 10 ^ 19) (sym back) short, is),
)

-- words of a number outside its range are those of none in it
pub not_allowed :
    (words : List (List ℕ)) (setting : Setting) (loops : ℕ) (z y : ℤ) → y ≡ z →
    words ≡ line_words (Value setting z) → unsigned_abs z < 10 ^ 19 →
    is_value loops setting y ≡ false
    → (x : ℤ) → HasValues loops (Value setting x) → words ≢ line_words (Value setting x)
not_allowed words setting loops z y back same short bad x has same_too =
    let numbers : signed_decimal z ≡ signed_decimal x = two_words (setting_word setting)
    (setting_word setting) (signed_decimal z) (signed_decimal x) (sym same ∙ same_too) in
    false≢true (sym bad ∙ ap (is_value loops setting) (back ∙ signed_is_one z x short has.0 numbers)
    ∙ has.1)

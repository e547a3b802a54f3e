-- The numbers of a loop's line.
use Rattle.std.proofs.Common.{◌≡◌, ◌≢◌, ◌&&◌, ℕ, zero, suc, ◌<◌, ◌≤◌, ◌^◌, true, false, List, refl, sym, ap, ◌∙◌, arith, leb}
use Rattle.std.specs.Prelude.{IsTrue, nat_le}
use Rattle.std.specs.List.{AllByRecursion}
use Rattle.std.specs.Fmt.{decimal}
use Rattle.std.proofs.lemmas.Bool.{and_parts, leb-true, le-leb, false≢true}
use Rattle.std.proofs.lemmas.Bool.Decides.{nat_tests}
use Rattle.std.proofs.lemmas.Fmt.{decimal_injective}
use Rattle.sl_base.specs.Limits.{max_list_frames}
use Rattle.sl_commands.specs.declared.settings.StripSettings.{StripSettings}
use Rattle.sl_commands.specs.Settings.{is_cycle_of, is_strip}
use Rattle.text_lines.specs.Lines.{IsWord}
use Rattle.text_lines.specs.Numerals.{IsNumeralOf}
use Rattle.text_lines.proofs.IntegerLemmas.{numeral_is_one}
use Rattle.text_lines.proofs.WordLemmas.{decimal_is_word}
use Rattle.session_file.specs.SessionLines.{strip_words}
use Rattle.session_file.specs.Readings.{StripFits}

-- a number above the greatest isn't one at most that
pub not_within : (word : List ℕ) (number most : ℕ) → most < 10 ^ 19 → IsNumeralOf word number →
    most < number → (other : ℕ) → other ≤ most → word ≢ decimal other
not_within word number most short is above other low same =
    let one = numeral_is_one word number other is
    (record { within = omega arith; spelled = same }) in omega arith

-- a cycle is at most its length
cycle_within : (length cycle : ℕ) → IsTrue (is_cycle_of length cycle) → cycle ≤ length
cycle_within zero cycle is = Prim.grind (arith, nat_tests)
cycle_within (suc n) cycle is =
    leb-true cycle (suc n) (and_parts (leb 1 cycle) (leb cycle (suc n)) is).1

-- the parts of a strip whose values are in their ranges
pub record StripParts (s : StripSettings) : Type 0 where
  pub fits : StripFits s
  pub cycle : IsTrue (is_cycle_of s.length s.cycle)

pub strip_parts : (s : StripSettings) → IsTrue (is_strip s) → StripParts s
strip_parts s is =
    let thresh = and_parts
    (nat_le s.length max_list_frames && is_cycle_of s.length s.cycle
    && (leb 0 s.feedback && leb s.feedback 1000) && (leb 0 s.wet && leb s.wet 1000)
    && (leb 0 s.round && leb s.round 1) && (leb 0 s.quantize && leb s.quantize 3))
    (leb 0 s.rec_thresh && leb s.rec_thresh 8388607) is in
    let quantize = and_parts
    (nat_le s.length max_list_frames && is_cycle_of s.length s.cycle
    && (leb 0 s.feedback && leb s.feedback 1000) && (leb 0 s.wet && leb s.wet 1000)
    && (leb 0 s.round && leb s.round 1)) (leb 0 s.quantize && leb s.quantize 3) thresh.0 in
    let round = and_parts
    (nat_le s.length max_list_frames && is_cycle_of s.length s.cycle
    && (leb 0 s.feedback && leb s.feedback 1000) && (leb 0 s.wet && leb s.wet 1000))
    (leb 0 s.round && leb s.round 1) quantize.0 in
    let wet = and_parts (nat_le s.length max_list_frames && is_cycle_of s.length s.cycle
    && (leb 0 s.feedback && leb s.feedback 1000)) (leb 0 s.wet && leb s.wet 1000) round.0 in
    let feedback = and_parts (nat_le s.length max_list_frames && is_cycle_of s.length s.cycle)
    (leb 0 s.feedback && leb s.feedback 1000) wet.0 in
    let front = and_parts (nat_le s.length max_list_frames) (is_cycle_of s.length s.cycle)
    feedback.0 in
    let length_within : s.length ≤ max_list_frames = leb-true s.length max_list_frames front.0 in
    let cycle_low : s.cycle ≤ s.length = cycle_within s.length s.cycle front.1 in
    record {
      fits = record {
        length = length_within;
        cycle = omega arith;
        feedback = leb-true s.feedback 1000
            (and_parts (leb 0 s.feedback) (leb s.feedback 1000) feedback.1).1;
        wet = leb-true s.wet 1000 (and_parts (leb 0 s.wet) (leb s.wet 1000) wet.1).1;
        round = leb-true s.round 1 (and_parts (leb 0 s.round) (leb s.round 1) round.1).1;
        quantize = leb-true s.quantize 3
            (and_parts (leb 0 s.quantize) (leb s.quantize 3) quantize.1).1;
        rec_thresh = leb-true s.rec_thresh 8388607
            (and_parts (leb 0 s.rec_thresh) (leb s.rec_thresh 8388607) thresh.1).1;
      };
      cycle = front.1;
    }

-- no number is below 0
low : (n : ℕ) → leb 0 n ≡ true
low n = le-leb 0 n (omega arith)

-- each number of a strip is a word
pub strip_words_are_words : (s : StripSettings) → StripFits s →
    AllByRecursion IsWord (strip_words s)
strip_words_are_words s fits = (
  decimal_is_word s.length (omega (arith, fits.length)),
  (
    decimal_is_word s.cycle (omega (arith, fits.cycle)),
    (
      decimal_is_word s.feedback (omega (arith, fits.feedback)),
      (
        decimal_is_word s.wet (omega (arith, fits.wet)),
        (
          decimal_is_word s.round (omega (arith, fits.round)),
          (
            decimal_is_word s.quantize (omega (arith, fits.quantize)),
            (decimal_is_word s.rec_thresh (omega (arith, fits.rec_thresh)), tt),
          ),
        ),
      ),
    ),
  ),
)

-- numbers of one spelling are one
pub number_is_one : (number other most : ℕ) → most < 10 ^ 19 → number ≤ most → other ≤ most →
    decimal number ≡ decimal other → number ≡ other
number_is_one number other most short low low_too same =
    decimal_injective number other (omega arith) (omega arith) same

-- strips of the same parts are one
same_strip :
    (s t : StripSettings) → s.length ≡ t.length → s.cycle ≡ t.cycle → s.feedback ≡ t.feedback →
    s.wet ≡ t.wet → s.round ≡ t.round → s.quantize ≡ t.quantize → s.rec_thresh ≡ t.rec_thresh →
    s ≡ t
same_strip s t lengths cycles feedbacks wets rounds quantizes threshes =
    let with_length : ℕ → StripSettings =
    λ n. record {
      length = n;
      cycle = s.cycle;
      feedback = s.feedback;
      wet = s.wet;
      round =
          s.round;
      quantize = s.quantize;
      rec_thresh = s.rec_thresh;
    } in
    let with_cycle : ℕ → StripSettings =
    λ n. record {
      length = t.length;
      cycle = n;
      feedback = s.feedback;
      wet = s.wet;
      round =
          s.round;
      quantize = s.quantize;
      rec_thresh = s.rec_thresh;
    } in
    let with_feedback : ℕ → StripSettings =
    λ n. record {
      length = t.length;
      cycle = t.cycle;
      feedback = n;
      wet = s.wet;
      round =
          s.round;
      quantize = s.quantize;
      rec_thresh = s.rec_thresh;
    } in
    let with_wet : ℕ → StripSettings =
    λ n. record {
      length = t.length;
      cycle = t.cycle;
      feedback = t.feedback;
      wet = n;
      round =
          s.round;
      quantize = s.quantize;
      rec_thresh = s.rec_thresh;
    } in
    let with_round : ℕ → StripSettings =
    λ n. record {
      length = t.length;
      cycle = t.cycle;
      feedback = t.feedback;
      wet =
          t.wet;
      round = n;
      quantize = s.quantize;
      rec_thresh = s.rec_thresh;
    } in
    let with_quantize : ℕ → StripSettings =
    λ n. record {
      length = t.length;
      cycle = t.cycle;
      feedback = t.feedback;
      wet =
          t.wet;
      round = t.round;
      quantize = n;
      rec_thresh = s.rec_thresh;
    } in
    let with_thresh : ℕ → StripSettings =
    λ n. record {
      length = t.length;
      cycle = t.cycle;
      feedback = t.feedback;
      wet =
          t.wet;
      round = t.round;
      quantize = t.quantize;
      rec_thresh = n;
    } in
    ap with_length lengths ∙ ap with_cycle cycles ∙ ap with_feedback feedbacks ∙ ap with_wet wets
    ∙ ap with_round rounds ∙ ap with_quantize quantizes ∙ ap with_thresh threshes

-- strips of the same words are one
pub strip_is_one : (s t : StripSettings) → StripFits s → StripFits t →
    strip_words s ≡ strip_words t → s ≡ t
strip_is_one s t fits fits_too same =
    let length_words : decimal s.length ≡ decimal t.length = cc same in
    let cycle_words : decimal s.cycle ≡ decimal t.cycle = cc same in
    let feedback_words : decimal s.feedback ≡ decimal t.feedback = cc same in
    let wet_words : decimal s.wet ≡ decimal t.wet = cc same in
    let round_words : decimal s.round ≡ decimal t.round = cc same in
    let quantize_words : decimal s.quantize ≡ decimal t.quantize = cc same in
    let thresh_words : decimal s.rec_thresh ≡ decimal t.rec_thresh = cc same in
    same_strip s t
    (number_is_one s.length t.length max_list_frames (omega arith) fits.length fits_too.length
    length_words)
    (number_is_one s.cycle t.cycle max_list_frames (omega arith) fits.cycle fits_too.cycle
    cycle_words)
    (number_is_one s.feedback t.feedback 1000 (omega arith) fits.feedback fits_too.feedback
    feedback_words)
    (number_is_one s.wet t.wet 1000 (omega arith) fits.wet fits_too.wet wet_words)
    (number_is_one s.round t.round 1 (omega arith) fits.round fits_too.round round_words)
    (number_is_one s.quantize t.quantize 3 (omega arith) fits.quantize fits_too.quantize
    quantize_words)
    (number_is_one s.rec_thresh t.rec_thresh 8388607 (omega arith) fits.rec_thresh
    fits_too.rec_thresh thresh_words)

-- where the cycle isn't one of the length, the words are of no strip whose values are in their
-- ranges
pub no_strip : (words : List (List ℕ)) (s : StripSettings) → words ≡ strip_words s → StripFits s →
    is_cycle_of s.length s.cycle ≡ false → (t : StripSettings) → IsTrue (is_strip t) →
    words ≢ strip_words t
no_strip words s spelled fits bad t is spelled_too =
    let parts = strip_parts t is in
    let one = strip_is_one s t fits parts.fits (sym spelled ∙ spelled_too) in
    false≢true (sym bad ∙ ap (λ (u : StripSettings). is_cycle_of u.length u.cycle) one
    ∙ parts.cycle)

-- The words of the command line are `render IN JOURNAL OUT` with options behind them, `drill NUMBER
-- STEPS`, or `show NAME`, byte for byte. The options of `render` are `--period N` (1 to 8192),
-- `--chunks N` (1 to 32768), `--loops N` (1 to 16) and `--session NAME`, each two words, in any
-- order and each at most once; `--loops` and `--session` exclude each other. Where one isn't given,
-- the period is 1024, there are 4096 chunks and one loop, and no session. A number is decimal,
-- without a sign or a leading zero. NUMBER goes from 0 to 4294967295, and STEPS from 1 to 1000000.
-- IN, JOURNAL and OUT are names, and the name of a session has at most 48 bytes.
-- "The words of the command line" in docs/formats.md.
use Rattle.std.specs.Prelude.{ℕ, Bool, ◌&&◌, List, [], ◌∷◌, length, nat_le, Option, Some, None, is_some, if◌then◌else◌, codes}
use Rattle.std.specs.Option.{option_map, option_and_then}
use Rattle.std.specs.Str.{bytes_eq}
use Rattle.std.specs.Str.Parse.{digits_value}
use Rattle.sl_base.specs.Limits.{max_session_name, max_period, max_chunks, max_loops}
use Rattle.sl_base.specs.Names.{is_name}
use Rattle.text_lines.specs.Numerals.{is_numeral}

-- the greatest number of steps of a drill
abbrev pub max_drill_steps : ℕ
max_drill_steps = 1000000

-- what a run of `render` is asked for
pub record RenderAsked : Type 0 where
  pub input : List ℕ
  pub journal : List ℕ
  pub out : List ℕ
  pub period : ℕ
  pub chunks : ℕ
  pub loops : ℕ
  pub session : Option (List ℕ)

-- what a drill is asked for
pub record DrillAsked : Type 0 where
  pub number : ℕ
  pub steps : ℕ

-- what words ask for: a run, a drill, or a look at a session of this name
pub data Asked : Type 0 where
  renders : RenderAsked → Asked
  drills : DrillAsked → Asked
  shows : List ℕ → Asked

-- the options that were given
pub record Given : Type 0 where
  pub period : Option ℕ
  pub chunks : Option ℕ
  pub loops : Option ℕ
  pub session : Option (List ℕ)

abbrev pub none_given : Given
none_given = record { period = None; chunks = None; loops = None; session = None }

-- the number from the least to the most that a word spells
abbrev pub number_between : ℕ → ℕ → List ℕ → Option ℕ
number_between least most word =
    if is_numeral word && nat_le least (digits_value 10 word)
    && nat_le (digits_value 10 word) most then
    Some (digits_value 10 word) else None

-- the number from 1 on
abbrev pub number_in : ℕ → List ℕ → Option ℕ
number_in most word = number_between 1 most word

-- the word is the name of a session
abbrev pub is_session_word : List ℕ → Bool
is_session_word word = is_name word && nat_le (length word) max_session_name

abbrev pub session_in : List ℕ → Option (List ℕ)
session_in word = if is_session_word word then Some word else None

-- what is given for the first time
abbrev pub first_given : {A : Type 0} → Option A → Option A → Option A
first_given None now = now
first_given (Some before) now = None

-- with one option more, or None where it isn't one
abbrev pub with_option : List ℕ → List ℕ → Given → Option Given
with_option word value g =
    if bytes_eq word (codes "--period") then option_map (λ n. record g { period = Some n })
    (first_given g.period (number_in max_period value))
    else if bytes_eq word (codes "--chunks") then option_map (λ n. record g { chunks = Some n })
    (first_given g.chunks (number_in max_chunks value))
    else if bytes_eq word (codes "--loops") then option_map (λ n. record g { loops = Some n })
    (first_given g.loops (number_in max_loops value))
    else if bytes_eq word (codes "--session") then
    option_map (λ name. record g { session = Some name })
    (first_given g.session (session_in value))
    else None

-- what words give, two at a time, where each two words give one option more or are none
abbrev pub options_in : {G : Type 0} → (List ℕ → List ℕ → G → Option G) → List (List ℕ) → G →
    Option G
options_in with [] g = Some g
options_in with (word ∷ []) g = None
options_in with (word ∷ value ∷ words) g =
    option_and_then (options_in with words) (with word value g)

-- the value, or the one that stands where none is given
abbrev pub given_or : {A : Type 0} → A → Option A → A
given_or other None = other
given_or other (Some a) = a

-- the run with these options
abbrev pub run_with : List ℕ → List ℕ → List ℕ → Given → Option Asked
run_with input journal out g =
    if is_some g.loops && is_some g.session then None
    else Some (renders (record {
      input = input;
      journal = journal;
      out = out;
      period = given_or 1024 g.period;
      chunks = given_or 4096 g.chunks;
      loops = given_or 1 g.loops;
      session = g.session;
    }))

-- the run of three names with these options, where there are such
abbrev pub run_named : List ℕ → List ℕ → List ℕ → Option Given → Option Asked
run_named input journal out given = if is_name input && is_name journal && is_name out then
    option_and_then (run_with input journal out) given else None

-- what words behind `render` ask for
abbrev pub render_in : List (List ℕ) → Option Asked
render_in (input ∷ journal ∷ out ∷ words) =
    run_named input journal out (options_in with_option words none_given)
render_in _ = None

-- the drill of two numbers, where there are such
abbrev pub drill_with : Option ℕ → Option ℕ → Option Asked
drill_with (Some number) (Some steps) = Some (drills (record { number = number; steps = steps }))
drill_with _ _ = None

-- what words behind `drill` ask for
abbrev pub drill_in : List (List ℕ) → Option Asked
drill_in (number ∷ steps ∷ []) =
    drill_with (number_between 0 4294967295 number) (number_in max_drill_steps steps)
drill_in _ = None

-- what words behind `show` ask for
abbrev pub show_in : List (List ℕ) → Option Asked
show_in (name ∷ []) = option_map shows (session_in name)
show_in _ = None

-- what the words ask for, or None where they aren't in the grammar
abbrev pub asked_in : List (List ℕ) → Option Asked
asked_in [] = None
asked_in (first ∷ words) =
    if bytes_eq first (codes "render") then render_in words else
    if bytes_eq first (codes "drill") then drill_in words else
    if bytes_eq first (codes "show") then show_in words else None

-- What the reading of the words answers: what they ask for, or a fault where they aren't in the
-- grammar. A live session's path is copied, so its words may want memory.
-- "The words of the command line" in docs/formats.md.
use Rattle.std.specs.Prelude.{◌≡◌, ℕ, List, Option, Some, None, IsSome, Result, Ok, Err}
use Rattle.command_words.specs.Words.{Asked, renders, drills, shows, asked_in}
use Rattle.command_words.specs.LiveWords.{LiveAsked, live_in}
use Rattle.command_words.specs.declared.plain.Plain.{Plain}
use Rattle.command_words.specs.declared.plain.Plain.TheVariants.{Render as RenderWords, Drill as DrillWords, Show as ShowWords}
use Rattle.command_words.specs.declared.words.Words.{Words}
use Rattle.command_words.specs.declared.words.Words.TheVariants.{Render, Drill, Show, Live}
use Rattle.command_words.specs.declared.fault.WordsFault.{WordsFault}
use Rattle.command_words.specs.declared.fault.WordsFault.TheVariants.{Words as OtherWords, Memory}

-- what a command asks for
abbrev pub asked_by : Plain → Asked
asked_by (RenderWords r) = renders r
asked_by (DrillWords d) = drills d
asked_by (ShowWords name) = shows name

-- the answer is what is asked for, or a fault where nothing is
abbrev pub GivesAsked : Option Asked → Result Plain WordsFault → Type 0
GivesAsked asked (Ok words) = asked ≡ Some (asked_by words)
GivesAsked asked (Err _) = asked ≡ None

-- the same of a live session; memory is wanted only where one is asked for
abbrev pub GivesLive : Option LiveAsked → Result LiveAsked WordsFault → Type 0
GivesLive asked (Ok live) = asked ≡ Some live
GivesLive asked (Err OtherWords) = asked ≡ None
GivesLive asked (Err Memory) = IsSome asked

-- the same of all words: they ask for a command without devices, for a live session, or for neither
abbrev pub GivesWords : List (List ℕ) → Result Words WordsFault → Type 0
GivesWords words (Ok (Render r)) = asked_in words ≡ Some (renders r)
GivesWords words (Ok (Drill d)) = asked_in words ≡ Some (drills d)
GivesWords words (Ok (Show name)) = asked_in words ≡ Some (shows name)
GivesWords words (Ok (Live live)) = live_in words ≡ Some live
GivesWords words (Err OtherWords) = (asked_in words ≡ None) × (live_in words ≡ None)
GivesWords words (Err Memory) = IsSome (live_in words)

-- The numbers and names that words give lie in their ranges.
-- "The words of the command line" in docs/formats.md.
use Rattle.std.specs.Prelude.{◌≤◌, ℕ, List, length, Option, IfSome, IsTrue}
use Rattle.sl_base.specs.Limits.{max_period, max_chunks, max_loops, max_session_name, max_rate, max_quota}
use Rattle.sl_commands.specs.Settings.{is_rate, is_loop_count}
use Rattle.command_words.specs.Words.{RenderAsked, Given}
use Rattle.command_words.specs.LiveWords.{LiveAsked, LiveGiven, max_port, max_path, max_channels}

-- a number that was given lies from the least to the most
abbrev pub IsBetween : ℕ → ℕ → Option ℕ → Type 0
IsBetween least most given = IfSome given (λ n. (least ≤ n) × (n ≤ most))

-- and so from 1 on
abbrev pub IsUpTo : ℕ → Option ℕ → Type 0
IsUpTo most given = IsBetween 1 most given

-- options in their ranges
pub record AreOptions (g : Given) : Type 0 where
  pub period : IsUpTo max_period g.period
  pub chunks : IsUpTo max_chunks g.chunks
  pub loops : IsUpTo max_loops g.loops
  pub session : IfSome g.session (λ name. length name ≤ max_session_name)

-- what a run is asked for lies in its ranges
pub record IsRenderAsked (r : RenderAsked) : Type 0 where
  pub period_from : 1 ≤ r.period
  pub period_within : r.period ≤ max_period
  pub chunks : r.chunks ≤ max_chunks
  pub loops_from : 1 ≤ r.loops
  pub loops_within : r.loops ≤ max_loops
  pub session : IfSome r.session (λ name. length name ≤ max_session_name)

-- a path has a length in its range
abbrev pub IsPath : Option (List ℕ) → Type 0
IsPath midi = IfSome midi (λ path. (1 ≤ length path) × (length path ≤ max_path))

-- options of a live session in their ranges
pub record AreLiveOptions (g : LiveGiven) : Type 0 where
  pub port : IsUpTo max_port g.port
  pub midi : IsPath g.midi
  pub rate : IsUpTo max_rate g.rate
  pub channels : IsUpTo max_channels g.channels
  pub quota : IsUpTo max_quota g.quota

-- what a live session is asked for lies in its ranges
pub record IsLiveAsked (l : LiveAsked) : Type 0 where
  pub port_from : 1 ≤ l.port
  pub port_within : l.port ≤ max_port
  pub midi : IsPath l.midi
  pub period_from : 1 ≤ l.period
  pub period_within : l.period ≤ max_period
  pub rate : IsTrue (is_rate l.rate)
  pub channels_from : 1 ≤ l.channels
  pub channels_within : l.channels ≤ max_channels
  pub chunks_from : 1 ≤ l.chunks
  pub chunks_within : l.chunks ≤ max_chunks
  pub loops : IsTrue (is_loop_count l.loops)
  pub quota_from : 1 ≤ l.quota
  pub quota_within : l.quota ≤ max_quota
  pub session : IfSome l.session (λ name. length name ≤ max_session_name)

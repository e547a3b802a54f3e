-- The steps of `live`: what a session is begun with, and why there is none.
-- "How a session ends" in docs/rules.md.
use Rattle.std.specs.Prelude.{◌≡◌, ◌≤◌, ℕ, None}
use Rattle.sl_base.specs.Limits.{max_chunks, max_quota, max_period}
use Rattle.sl_ports.specs.declared.sinks.Sink.{Ghosts as Sink}
use Rattle.wav_pcm.specs.WavText.{IsFormat}
use Rattle.engine_steps.specs.Engines.{Beginning}
use Rattle.whole_looper.specs.declared.fault.BeginFault.{BeginFault}
use Rattle.whole_looper.specs.declared.fault.BeginFault.TheVariants.{Memory as NoRoom, Limit as TooMany}
use Rattle.console_lines.specs.Statuses.{status_number, status_of}
use Rattle.console_lines.specs.Telling.{TellsFault}
use Rattle.console_lines.specs.declared.status.RunFault.{RunFault}
use Rattle.console_lines.specs.declared.status.RunFault.TheVariants.{Limit, Memory}
use Rattle.live_files.specs.LiveReading.{LiveContents}
use Rattle.live_core.specs.declared.devices.Devices.{Devices}
use Rattle.live_run.specs.declared.outside.End.{End}
use Rattle.live_run.specs.declared.playing.Sizes.{Sizes}
use Rattle.live_run.specs.Playing.{outside_with}

-- with these sizes a session may be begun
pub record AreSizes (s : Sizes) : Type 0 where
  pub chunks : s.chunks ≤ max_chunks
  pub some : 1 ≤ s.quota
  pub quota : s.quota ≤ max_quota
  pub format : IsFormat s.channels 16
  pub frames : 1 ≤ s.period
  pub within : s.period ≤ max_period

-- with what it begins
abbrev pub beginning_with : Sizes → LiveContents → Beginning
beginning_with s t =
    record { settings = t.settings; chunks = s.chunks; initial = t.lists; quota = s.quota }

-- why a session didn't begin is handed on
abbrev pub PassesBegin : BeginFault → RunFault → Type 0
PassesBegin NoRoom fault = fault ≡ Memory
PassesBegin TooMany fault = fault ≡ Limit

-- the console was told why there is no session, and all is given back
pub record TurnsAway {P A O L M C : Type 0} (c : Sink C) (fault : RunFault)
    (devices : Devices P A O L M) (console : C) (e : End P A O L M C) : Type 0 where
  pub told : TellsFault c console e.outside.console fault
  pub status_is : e.status ≡ status_number (status_of fault)
  pub unused : e.outside ≡ outside_with devices.keeper e.outside.console devices
  pub no_session : e.session ≡ None

-- the same where it didn't begin for this reason
pub record HasNotBegun {P A O L M C : Type 0} (c : Sink C) (reason : BeginFault)
    (devices : Devices P A O L M) (console : C) (e : End P A O L M C) : Type 0 where
  pub fault : RunFault
  pub passes : PassesBegin reason fault
  pub turns : TurnsAway c fault devices console e

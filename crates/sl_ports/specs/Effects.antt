-- What a call did to the keeper or the sink that it was lent, whichever keeper or sink this is.
-- "The outside" in docs/rules.md.
use Rattle.std.specs.Prelude.{◌≡◌, ℕ, List, Bool}
use Rattle.sl_base.specs.Counting.{Counts}
use Rattle.sl_ports.specs.Texts.{Tells}
use Rattle.sl_ports.specs.declared.keepers.Keeper.{Ghosts as Keeper}
use Rattle.sl_ports.specs.declared.sinks.Sink.{Ghosts as Sink}

-- no file changed and no count of writes; the count of readings rose where a reading failed
pub record OnlyReads {P : Type 0} (k : Keeper P) (old new : P) (failed : Bool) : Type 0 where
  pub counts : Counts (k.read_faults old) (k.read_faults new) failed
  pub writes : k.write_faults new ≡ k.write_faults old
  pub files : k.files new ≡ k.files old

-- the text was told, or a prefix of it, and then only where the count of faults rose
abbrev pub TellsTo : {C : Type 0} → Sink C → C → C → List ℕ → Type 0
TellsTo s old new text = Tells (s.faults old) (s.faults new) (s.held old) (s.held new) text

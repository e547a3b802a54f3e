use Rattle.run_laws.proofs.Saves.Made.{settings_valid}
use Rattle.run_laws.proofs.sent_saves.the_settings_of_a_looper_lie_in_their_ranges.Goals as goal

pub returns : goal.returns
returns c frame l h = settings_valid frame l h.looper

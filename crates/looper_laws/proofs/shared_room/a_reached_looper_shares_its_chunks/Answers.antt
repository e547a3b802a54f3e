use Rattle.looper_laws.proofs.Room.Sharing.{looper_shares}
use Rattle.looper_laws.proofs.shared_room.a_reached_looper_shares_its_chunks.Goals as goal

pub returns : goal.returns
returns c = looper_shares

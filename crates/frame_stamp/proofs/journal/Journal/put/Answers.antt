use Rattle.frame_stamp.proofs.JournalLemmas.{journal_stamped}
use Rattle.frame_stamp.proofs.journal.Journal.put.Goals as goal

pub invariant_of-self : goal.invariant_of-self
invariant_of-self c =
    journal_stamped _ _ _ _ _ _ _ _ _ _ c.self.view_is c.self.told c.self.invariant c.requires.room
    c.requires.frame c.push_reserved.ensures.capacity c.push_reserved.ensures.items

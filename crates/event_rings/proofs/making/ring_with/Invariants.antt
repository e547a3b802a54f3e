use Rattle.event_rings.proofs.making.ring_with.Given as goal

abbrev pub ghosts-parted : goal.ghosts-parted
ghosts-parted g a = record { capacity = a.line.now.cap; limit = a.limit; bound = a.bound }

-- Runs that are worked out step by step.
-- - One loop records three frames and is saved while it plays: its blocks pass their ring, the
--   outcome passes the saver's ring, and the release is answered. Then its length is read, and its
--   one layer is taken back.
-- - The ring of replies has one place: the second reply is held, and the engine takes nothing until
--   the first was taken and the second was put.
-- "The world on one thread" in docs/rules.md.
use Rattle.std.specs.Prelude.{pos, List, [], ◌∷◌, codes}
use Rattle.sl_commands.specs.declared.Target.TheVariants.{One}
use Rattle.sl_commands.specs.declared.Verb.TheVariants.{Rec, Undo}
use Rattle.sl_commands.specs.declared.Control.TheVariants.{LoopLen, Feedback}
use Rattle.sl_commands.specs.declared.What.TheVariants.{Value, Save}
use Rattle.sl_commands.specs.declared.Reply.{Reply}
use Rattle.sl_commands.specs.declared.Command.TheVariants.{Hit, Get, SaveLoop}
use Rattle.sl_commands.specs.Settings.{default_settings}
use Rattle.engine_steps.specs.Engines.{Beginning, first_engine}
use Rattle.ring_world.specs.declared.lists.Lists.{Lists}
use Rattle.ring_world.specs.declared.step.Step.{Step}
use Rattle.ring_world.specs.declared.step.Step.TheVariants.{PutOsc, PutMidi, TakeOsc, TakeMidi, TakeSaver, Period, ReplyTake, BlockPut, BlockTake, ReplyPut, PutSaver}
use Rattle.ring_world.specs.declared.step.Outcome.{Outcome}
use Rattle.ring_world.specs.declared.step.Outcome.TheVariants.{Done, Full, Empty, Held, Nothing}
use Rattle.ring_world.specs.Rings.{empty_ring}
use Rattle.ring_world.specs.Worlds.{first_lists}

-- one loop
abbrev pub one_loop : Beginning
one_loop =
    record { settings = default_settings 48000 1; chunks = 4; initial = []; quota = 100 }

abbrev pub one_loop_lists : Lists
one_loop_lists = first_lists (first_engine one_loop)

-- a loop is recorded, saved while it plays, read, and taken back
abbrev pub save_steps : List Step
save_steps = PutOsc (Hit (One 0) Rec) ∷ TakeOsc ∷ Period 3 ∷ PutMidi (Hit (One 0) Rec) ∷ TakeMidi
    ∷ PutOsc (SaveLoop (One 0) (codes "a.wav")) ∷ TakeOsc ∷ BlockPut ∷ BlockPut ∷ BlockTake
    ∷ TakeSaver ∷ BlockPut ∷ BlockPut ∷ BlockTake ∷ Period 2 ∷ BlockTake ∷ BlockTake ∷ PutSaver
    ∷ PutSaver ∷ TakeSaver ∷ ReplyTake ∷ ReplyTake ∷ ReplyPut ∷ PutOsc (Get (One 0) LoopLen)
    ∷ TakeOsc ∷ Period 1 ∷ ReplyTake ∷ PutMidi (Hit (One 0) Undo) ∷ TakeMidi ∷ TakeMidi ∷ []

abbrev pub save_outcomes : List Outcome
save_outcomes = Done ∷ Done ∷ Done ∷ Done ∷ Done ∷ Done ∷ Done ∷ Done ∷ Done ∷ Done
    ∷ Empty ∷ Done ∷ Nothing ∷ Done ∷ Done ∷ Done ∷ Empty ∷ Done ∷ Nothing ∷ Done
    ∷ Done ∷ Empty ∷ Nothing ∷ Done ∷ Done ∷ Done ∷ Done ∷ Done ∷ Done ∷ Empty ∷ []

abbrev pub save_replies : List Reply
save_replies =
    record { sender = 0; seq = 1; index = pos 0; what = Save; value = pos 0 }
    ∷ record { sender = 0; seq = 2; index = pos 0; what = Value LoopLen; value = pos 3 } ∷ []

-- two replies, and one place for them
abbrev pub narrow_lists : Lists
narrow_lists = record one_loop_lists { replies = empty_ring 1; osc = empty_ring 2 }

abbrev pub held_steps : List Step
held_steps = ReplyPut ∷ PutOsc (Get (One 0) LoopLen) ∷ PutOsc (Get (One 0) Feedback)
    ∷ PutOsc (Get (One 0) LoopLen) ∷ TakeOsc ∷ TakeOsc ∷ TakeOsc ∷ TakeMidi ∷ TakeSaver ∷ ReplyPut
    ∷ ReplyTake ∷ TakeOsc ∷ ReplyPut ∷ TakeOsc ∷ ReplyTake ∷ []

abbrev pub held_outcomes : List Outcome
held_outcomes = Nothing ∷ Done ∷ Done ∷ Full ∷ Done ∷ Done ∷ Held ∷ Held ∷ Held ∷ Full ∷ Done
    ∷ Held ∷ Done ∷ Empty ∷ Done ∷ []

abbrev pub held_replies : List Reply
held_replies =
    record { sender = 0; seq = 0; index = pos 0; what = Value LoopLen; value = pos 0 }
    ∷ record { sender = 0; seq = 1; index = pos 0; what = Value Feedback; value = pos 1000 } ∷ []

-- The files that a run of `render` names, with its loops and chunks.
-- "The files of a run" in docs/formats.md.
use Rattle.std.specs.Prelude.{⊤}
use Rattle.run_files.specs.Named.{Named, IsNamed}
use Rattle.command_words.specs.Words.{RenderAsked, Asked, renders, drills, shows}

-- the files that a run names
abbrev pub named_of : RenderAsked → Named
named_of r = record {
  input = r.input;
  session = r.session;
  loops = r.loops;
  journal =
      r.journal;
  chunks = r.chunks;
}

-- what a command names is within its ranges
abbrev pub IsNamedBy : Asked → Type 0
IsNamedBy (renders r) = IsNamed (named_of r)
IsNamedBy (drills d) = ⊤
IsNamedBy (shows session) = ⊤

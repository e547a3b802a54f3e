-- What a run of `render` leaves, from what its parts did.
use Rattle.std.proofs.Common.{◌≡◌, ℕ, ◌≤◌, List, [], ◌∷◌, ◌++◌, Option, ap, sym, ◌∙◌, subst, refl, arith, false, inl, inr}
use Rattle.std.specs.Prelude.{Result, Ok, Err}
use Rattle.std.specs.String.{string_bytes}
use Rattle.sl_base.specs.Counting.{Rose}
use Rattle.sl_ports.specs.Files.{Files, put_told}
use Rattle.sl_ports.specs.Effects.{OnlyReads}
use Rattle.sl_ports.specs.declared.keepers.Keeper.{Ghosts as Keeper}
use Rattle.sl_commands.specs.declared.Entry.{Entry}
use Rattle.looper_rules.specs.Run.{start}
use Rattle.loop_saver.specs.SavedFiles.{put_all}
use Rattle.loop_saver.specs.Accepting.{WritesFirst, StopsWriting}
use Rattle.loop_saver.proofs.AcceptLemmas.{put_all-append, writes_all, writes_before, stops_before, stops_behind, one_failed}
use Rattle.journal_run.specs.Performing.{Performs, saved_by}
use Rattle.journal_run.specs.declared.ending.Performed.{Performed}
use Rattle.save_feeding.specs.declared.stopped.Stopped.{Stopped}
use Rattle.save_feeding.specs.declared.stopped.Stopped.TheVariants.{Writing as Unwritten, Memory as Wanted}
use Rattle.run_files.specs.Named.{Named}
use Rattle.run_files.specs.AllFiles.{Contents, IsRunOf, ExceedsLimit, FirstBad}
use Rattle.run_files.specs.Readings.{ReadsRun, is_unread}
use Rattle.run_files.specs.declared.run.RunFiles.{RunFiles}
use Rattle.run_files.specs.declared.run.FilesFault.{FilesFault}
use Rattle.run_files.specs.declared.run.FilesFault.TheVariants.{File as BadOne, Read as NotRead, Memory as NoRoom, Limit as TooMuch}
use Rattle.command_words.specs.Words.{RenderAsked}
use Rattle.looper_cli.specs.Named.{named_of}
use Rattle.console_lines.specs.Telling.{done_text}
use Rattle.console_lines.specs.Statuses.{status_line, status_of}
use Rattle.looper_cli.specs.Endings.{input_of, looper_of, out_file, files_of_run, Renders, RendersFirst, StopsRendering, StaysWhole, KeepsCounts, FailsToWrite, FailsBy, PassesPlay}
use Rattle.console_lines.specs.Faults.{PassesFiles}
use Rattle.console_lines.specs.declared.status.RunFault.{RunFault}
use Rattle.console_lines.specs.declared.status.RunFault.TheVariants.{Memory as Lacking}
use Rattle.console_lines.specs.declared.status.Status.TheVariants.{Done}

-- the answer of a reading that ended with a fault
abbrev pub unread : FilesFault → Result RunFiles FilesFault
unread fault = Err fault

-- where the files aren't a run, nothing is written
pub unread_fails :
    {P : Type 0} (k : Keeper P) (r : RenderAsked) (n : Named) (old new : P) (fault : FilesFault)
    (result : RunFault) → n ≡ named_of r →
    OnlyReads k old new (is_unread (unread fault)) → ReadsRun (k.files old) n (unread fault) →
    PassesFiles fault result → FailsBy k r old new result
unread_fails k r n old new (BadOne name kind line) result same reads value passed =
    subst (FailsBy k r old new) (sym passed)
    (subst (λ m. FirstBad (k.files old) m name kind line) same value, reads.files)
unread_fails k r n old new NotRead result same reads value passed =
    subst (FailsBy k r old new) (sym passed) (reads.counts.rose refl, reads.files)
unread_fails k r n old new NoRoom result same reads value passed =
    subst (FailsBy k r old new) (sym passed) (inl reads.files)
unread_fails k r n old new TooMuch result same reads value passed =
    subst (FailsBy k r old new) (sym passed)
    (subst (ExceedsLimit (k.files old)) same value, reads.files)

-- the first files of the saves are the first of all
saves_come_first :
    {P : Type 0} (k : Keeper P) (r : RenderAsked) (t : Contents) (old mid new : P) →
    IsRunOf (k.files old) (named_of r) t → k.files mid ≡ k.files old →
    WritesFirst (saved_by t.entries (input_of t) (looper_of r t)) (k.files mid) (k.files new) →
    RendersFirst r (k.files old) (k.files new)
saves_come_first k r t old mid new is same first = record {
  contents = t;
  run = is;
  files = writes_before (saved_by t.entries (input_of t) (looper_of r t)) (out_file r t ∷ [])
      (k.files old) (k.files new)
      (subst (λ files. WritesFirst (saved_by t.entries (input_of t) (looper_of r t)) files
      (k.files new)) same first);
}

-- and where one of them isn't written, one of all isn't
saves_stop :
    {P : Type 0} (k : Keeper P) (r : RenderAsked) (t : Contents) (old mid new : P) →
    IsRunOf (k.files old) (named_of r) t → k.files mid ≡ k.files old →
    StopsWriting (saved_by t.entries (input_of t) (looper_of r t)) (k.files mid) (k.files new) →
    StopsRendering r (k.files old) (k.files new)
saves_stop k r t old mid new is same first = record {
  contents = t;
  run = is;
  files = stops_before (saved_by t.entries (input_of t) (looper_of r t)) (out_file r t ∷ [])
      (k.files old) (k.files new)
      (subst (λ files. StopsWriting (saved_by t.entries (input_of t) (looper_of r t)) files
      (k.files new)) same first);
}

-- what a run gave of the files that were read
pub played_so :
    {P : Type 0} (k : Keeper P) (r : RenderAsked) (t : Contents) (mid new : P) (es : List Entry)
    (chunks : ℕ) (answer : Result Performed Stopped) → es ≡ t.entries →
    chunks ≡ r.chunks → Performs k es (input_of t) (start t.settings chunks t.lists) mid new answer
    →
    Performs k t.entries (input_of t) (looper_of r t) mid new answer
played_so k r t mid new es chunks answer same count plays =
    subst (λ (l : List Entry). Performs k l (input_of t) (looper_of r t) mid new answer) same
    (subst (λ (c : ℕ). Performs k es (input_of t) (start t.settings c t.lists) mid new answer) count
    plays)

-- the answer of a run that ended with a fault, or gave something
abbrev pub unplayed : Stopped → Result Performed Stopped
unplayed fault = Err fault

abbrev pub gave : Performed → Result Performed Stopped
gave p = Ok p

-- where a run ends before OUT, the first files of its saves are written
pub unplayed_fails :
    {P : Type 0} (k : Keeper P) (r : RenderAsked) (n : Named) (t : Contents) (old mid new : P)
    (fault : Stopped) (result : RunFault) → n ≡ named_of r →
    OnlyReads k old mid false → IsRunOf (k.files old) n t →
    Performs k t.entries (input_of t) (looper_of r t) mid new (unplayed fault) →
    PassesPlay fault result → FailsBy k r old new result
unplayed_fails k r n t old mid new Unwritten result same reads is plays passed =
    subst (FailsBy k r old new) (sym passed) (record {
      first = saves_stop k r t old mid new (subst (λ m. IsRunOf (k.files old) m t) same is)
          reads.files plays.0;
      rose = subst (λ count. Rose count (k.write_faults new)) reads.writes plays.1;
    })
unplayed_fails k r n t old mid new Wanted result same reads is plays passed =
    subst (FailsBy k r old new) (sym passed)
    (inr (saves_come_first k r t old mid new (subst (λ m. IsRunOf (k.files old) m t) same is)
    reads.files plays.0))

-- so they are where there is no memory for the text
pub untold_fails :
    {P : Type 0} (k : Keeper P) (r : RenderAsked) (n : Named) (t : Contents) (old mid new : P)
    (p : Performed) → n ≡ named_of r →
    OnlyReads k old mid false → IsRunOf (k.files old) n t →
    Performs k t.entries (input_of t) (looper_of r t) mid new (gave p) → FailsBy k r old new Lacking
untold_fails k r n t old mid new p same reads is plays =
    inr (saves_come_first k r t old mid new (subst (λ m. IsRunOf (k.files old) m t) same is)
    reads.files
    (writes_all (saved_by t.entries (input_of t) (looper_of r t)) (k.files mid) (k.files new)
    plays.2.0))

-- all files of a run, where OUT comes behind those of its saves
out_comes_last :
    (r : RenderAsked) (t : Contents) (old mid played new : Option Files) (bytes : List ℕ) → mid ≡
    old →
    played ≡ put_all (saved_by t.entries (input_of t) (looper_of r t)) mid →
    bytes ≡ (out_file r t).bytes → new ≡ put_told played r.out bytes →
    new ≡ put_all (files_of_run r t) old
out_comes_last r t old mid played new bytes same saved made written =
    let saves = saved_by t.entries (input_of t) (looper_of r t) in
    written ∙ ap (λ b. put_told played r.out b) made
    ∙ ap (λ files. put_told files r.out (out_file r t).bytes) (saved ∙ ap (put_all saves) same)
    ∙ sym (put_all-append saves (out_file r t ∷ []) old)

-- a run whose files are all written is done, and its text is told
pub run_is_done :
    {P : Type 0} (k : Keeper P) (r : RenderAsked) (n : Named) (t : Contents) (old mid played new :
    P)
    (p : Performed) (bytes text : List ℕ) → n ≡ named_of r →
    OnlyReads k old mid false → IsRunOf (k.files old) n t →
    Performs k t.entries (input_of t) (looper_of r t) mid played (gave p) →
    bytes ≡ p.out.items → text ≡ string_bytes p.text ++ status_line Done →
    k.files new ≡ put_told (k.files played) r.out bytes →
    Renders r (k.files old) (k.files new) (λ said. text ≡ said)
run_is_done k r n t old mid played new p bytes text same reads is plays bytes_are text_is written =
    record {
      contents = t;
      run = subst (λ m. IsRunOf (k.files old) m t) same is;
      files = out_comes_last r t (k.files old) (k.files mid) (k.files played) (k.files new) bytes
          reads.files plays.2.0 (bytes_are ∙ plays.0) written;
      text = text_is ∙ ap done_text plays.1;
    }

-- where OUT can't be written, it is left
pub out_is_left :
    {P : Type 0} (k : Keeper P) (r : RenderAsked) (n : Named) (t : Contents) (old mid played new :
    P)
    (p : Performed) → n ≡ named_of r →
    OnlyReads k old mid false → IsRunOf (k.files old) n t →
    Performs k t.entries (input_of t) (looper_of r t) mid played (gave p) →
    k.files new ≡ k.files played → Rose (k.write_faults played) (k.write_faults new) →
    FailsToWrite k r old new
out_is_left k r n t old mid played new p same reads is plays left rose =
    let saves = saved_by t.entries (input_of t) (looper_of r t) in
    let out = one_failed k (out_file r t) played new left rose in
    record {
      first = record {
        contents = t;
        run = subst (λ m. IsRunOf (k.files old) m t) same is;
        files = stops_behind saves (out_file r t ∷ []) (k.files old) (k.files played)
            (k.files new) (plays.2.0 ∙ ap (put_all saves) reads.files) out.0;
      };
      rose = subst (λ count. Rose count (k.write_faults new)) (plays.2.1 ∙ reads.writes) rose;
    }

-- a reading that failed changes the count of readings alone
pub unread_counts :
    {P : Type 0} (k : Keeper P) (old new : P) (fault : FilesFault) (result : RunFault) →
    OnlyReads k old new (is_unread (unread fault)) → PassesFiles fault result →
    KeepsCounts k old new (status_of result)
unread_counts k old new (BadOne name kind line) result reads passed =
    subst (λ f. KeepsCounts k old new (status_of f)) (sym passed)
    (record { reads = reads.counts.stayed refl; writes = reads.writes })
unread_counts k old new NotRead result reads passed =
    subst (λ f. KeepsCounts k old new (status_of f)) (sym passed) reads.writes
unread_counts k old new NoRoom result reads passed =
    subst (λ f. KeepsCounts k old new (status_of f)) (sym passed)
    (record { reads = reads.counts.stayed refl; writes = reads.writes })
unread_counts k old new TooMuch result reads passed =
    subst (λ f. KeepsCounts k old new (status_of f)) (sym passed)
    (record { reads = reads.counts.stayed refl; writes = reads.writes })

-- a run that stops changes the count of writes alone
pub unplayed_counts :
    {P : Type 0} (k : Keeper P) (r : RenderAsked) (t : Contents) (old mid new : P) (fault : Stopped)
    (result : RunFault) → OnlyReads k old mid false →
    Performs k t.entries (input_of t) (looper_of r t) mid new (unplayed fault) →
    k.read_faults new ≡ k.read_faults mid → PassesPlay fault result →
    KeepsCounts k old new (status_of result)
unplayed_counts k r t old mid new Unwritten result reads plays still passed =
    subst (λ f. KeepsCounts k old new (status_of f)) (sym passed)
    (still ∙ reads.counts.stayed refl)
unplayed_counts k r t old mid new Wanted result reads plays still passed =
    subst (λ f. KeepsCounts k old new (status_of f)) (sym passed)
    (record { reads = still ∙ reads.counts.stayed refl; writes = plays.1 ∙ reads.writes })

-- the lists have room in the chunks that were asked for
pub lists_fit : (r : RenderAsked) (n : Named) (chunks needed : ℕ) → n ≡ named_of r →
    r.chunks ≡ chunks → needed ≤ n.chunks → needed ≤ chunks
lists_fit r n chunks needed same count fit =
    let asked = ap (λ (m : Named). m.chunks) same in omega (arith, asked, count, fit)

-- What writing and holding do, put together.
use Rattle.std.proofs.Common.{◌≡◌, ◌<◌, length, arith, ℕ, List, [], ◌∷◌, ◌++◌, refl, sym, ap, ◌∙◌, subst}
use Rattle.std.proofs.lemmas.List.{append-nil}
use Rattle.std.specs.Prelude.{Option}
use Rattle.std.proofs.Common.{append_assoc}
use Rattle.sl_base.specs.Counting.{Rose}
use Rattle.sl_base.specs.Sounds.{Sound}
use Rattle.wav_pcm.specs.WavText.{wav_text}
use Rattle.sl_ports.specs.Files.{Files}
use Rattle.sl_ports.specs.declared.keepers.Keeper.{Ghosts as Keeper}
use Rattle.loop_saver.specs.declared.ending.Ending.{Ending}
use Rattle.loop_saver.specs.declared.ending.Ending.TheVariants.{Written, Failed, Memory}
use Rattle.loop_saver.specs.SavedFiles.{SavedFile, put_all, list_file}
use Rattle.loop_saver.specs.Accepting.{WritesFirst, StopsWriting, Writes}

-- the file of a list that isn't empty
pub some_list :
    (rate : ℕ) (name bytes : List ℕ) (list : List Sound) → 0 < length list →
    bytes ≡ wav_text list 2 24 rate →
    record { name = name; bytes = bytes } ∷ [] ≡ list_file rate name list
some_list rate name bytes [] some are = absurd (omega arith)
some_list rate name bytes (x ∷ xs) some are =
    ap (λ b. (let f : SavedFile = record { name = name; bytes = b } in f) ∷ []) are

-- what a keeper has after more files
pub put_all-append : (fs gs : List SavedFile) (files : Option Files) →
    put_all (fs ++ gs) files ≡ put_all gs (put_all fs files)
put_all-append [] gs files = refl
put_all-append (f ∷ fs) gs files = put_all-append fs gs _

-- all were written
pub writes_all : (fs : List SavedFile) (old new : Option Files) → new ≡ put_all fs old →
    WritesFirst fs old new
writes_all fs old new files =
    record { written = fs; rest = []; whole = sym (append-nil fs); files = files }

-- the first of these files were written, and more would have been
pub writes_before : (fs gs : List SavedFile) (old new : Option Files) → WritesFirst fs old new →
    WritesFirst (fs ++ gs) old new
writes_before fs gs old new w = record {
  written = w.written;
  rest = w.rest ++ gs;
  whole = ap (λ hs. hs ++ gs) w.whole ∙ append_assoc w.written w.rest gs;
  files = w.files;
}

-- the first of these files were written behind others
pub writes_behind : (fs gs : List SavedFile) (old mid new : Option Files) → mid ≡ put_all fs old →
    WritesFirst gs mid new → WritesFirst (fs ++ gs) old new
writes_behind fs gs old mid new all w = record {
  written = fs ++ w.written;
  rest = w.rest;
  whole = ap (λ hs. fs ++ hs) w.whole ∙ sym (append_assoc fs w.written w.rest);
  files = w.files ∙ ap (put_all w.written) all ∙ sym (put_all-append fs w.written old);
}

-- the same where one file is left
pub stops_before : (fs gs : List SavedFile) (old new : Option Files) → StopsWriting fs old new →
    StopsWriting (fs ++ gs) old new
stops_before fs gs old new w = record {
  written = w.written;
  next = w.next;
  rest = w.rest ++ gs;
  whole = ap (λ hs. hs ++ gs) w.whole ∙ append_assoc w.written (w.next ∷ w.rest) gs;
  files = w.files;
}

pub stops_behind : (fs gs : List SavedFile) (old mid new : Option Files) → mid ≡ put_all fs old →
    StopsWriting gs mid new → StopsWriting (fs ++ gs) old new
stops_behind fs gs old mid new all w = record {
  written = fs ++ w.written;
  next = w.next;
  rest = w.rest;
  whole = ap (λ hs. fs ++ hs) w.whole ∙ sym (append_assoc fs w.written (w.next ∷ w.rest));
  files = w.files ∙ ap (put_all w.written) all ∙ sym (put_all-append fs w.written old);
}

-- the only file wasn't written
pub one_failed :
    {P : Type 0} (k : Keeper P) (f : SavedFile) (old new : P) → k.files new ≡ k.files old →
    Rose (k.write_faults old) (k.write_faults new) → Writes k (f ∷ []) old new Failed
one_failed k f old new same rose =
    (record { written = []; next = f; rest = []; whole = refl; files = same }, rose)

-- some files were written, and then others
pub writes_more :
    {P : Type 0} (k : Keeper P) (fs gs : List SavedFile) (old mid new : P) (now : Ending) →
    Writes k fs old mid Written → Writes k gs mid new now → Writes k (fs ++ gs) old new now
writes_more k fs gs old mid new Written first next =
    (next.0 ∙ ap (put_all gs) first.0 ∙ sym (put_all-append fs gs (k.files old)), next.1 ∙ first.1)
writes_more k fs gs old mid new Failed first next = (
  stops_behind fs gs _ _ _ first.0 next.0,
  subst (λ n. Rose n (k.write_faults new)) first.1 next.1,
)
writes_more k fs gs old mid new Memory first next =
    (writes_behind fs gs _ _ _ first.0 next.0, next.1 ∙ first.1)

-- a write that failed ends the writing, and so does want of memory
pub writes_failed :
    {P : Type 0} (k : Keeper P) (fs gs : List SavedFile) (old new : P) →
    Writes k fs old new Failed → Writes k (fs ++ gs) old new Failed
writes_failed k fs gs old new w = (stops_before fs gs _ _ w.0, w.1)

pub writes_wanted :
    {P : Type 0} (k : Keeper P) (fs gs : List SavedFile) (old new : P) →
    Writes k fs old new Memory → Writes k (fs ++ gs) old new Memory
writes_wanted k fs gs old new w = (writes_before fs gs _ _ w.0, w.1)

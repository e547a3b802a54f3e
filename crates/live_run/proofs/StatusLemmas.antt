-- Which statuses there are, and what holds of the files at each.
use Rattle.std.proofs.Common.{◌≡◌, ◌≢◌, ◌⊎◌, inl, inr, ℕ, List, Option, Some, None, refl, sym, ◌∙◌, subst, arith}
use Rattle.std.specs.Prelude.{◌↔◌, IfSome}
use Rattle.sl_ports.specs.Files.{Files}
use Rattle.sl_ports.specs.declared.keepers.Keeper.{Ghosts as Keeper}
use Rattle.sl_ports.specs.declared.sinks.Sink.{Ghosts as Sink}
use Rattle.live_ports.specs.declared.link.Link.{Ghosts as Link}
use Rattle.live_ports.specs.declared.source.Source.{Ghosts as Source}
use Rattle.command_words.specs.LiveWords.{LiveAsked}
use Rattle.console_lines.specs.Statuses.{status_number, status_of}
use Rattle.console_lines.specs.declared.status.RunFault.{RunFault}
use Rattle.console_lines.specs.declared.status.RunFault.TheVariants.{BadFile, Limit, Reading, Writing, Memory as Lacking}
use Rattle.live_files.specs.LiveNamed.{LiveNamed, IsLiveNamed}
use Rattle.live_files.specs.LiveReading.{LiveContents, IsLiveOf, ExceedsLive, FirstBadLive}
use Rattle.live_files.proofs.LiveLemmas.{live_or_bad, live_or_limit}
use Rattle.live_core.specs.declared.status.LiveStatus.{LiveStatus}
use Rattle.live_core.specs.declared.status.LiveStatus.TheVariants.{Done, ReadFault, WriteFault, Torn, LinkFault, Memory, LongInput}
use Rattle.live_core.specs.Statuses.{number_of}
use Rattle.live_run.specs.declared.outside.Outside.{Outside}
use Rattle.live_run.specs.declared.outside.End.{End}
use Rattle.live_run.specs.Playing.{named_in, Refuses, HasPlayed, HasRefused, Plays, played, refused}
use Rattle.live_run.specs.Running.{IsLiveNumber, TellsBadFiles, RunsLive}

-- of a session that was played
live_number : (s : LiveStatus) → IsLiveNumber (number_of s)
live_number Done = inl refl
live_number ReadFault = inr (inr (inr (inl refl)))
live_number WriteFault = inr (inr (inr (inr (inl refl))))
live_number Torn = inr (inr (inr (inr (inr (inl refl)))))
live_number LinkFault = inr (inr (inr (inr (inr (inr (inl refl))))))
live_number Memory = inr (inr (inr (inr (inr (inr (inr (inl refl)))))))
live_number LongInput = inr (inr (inr (inr (inr (inr (inr (inr (inr refl))))))))

live_not_words : (s : LiveStatus) → number_of s ≢ 2
live_not_words Done two = omega (arith, two)
live_not_words ReadFault two = omega (arith, two)
live_not_words WriteFault two = omega (arith, two)
live_not_words Torn two = omega (arith, two)
live_not_words LinkFault two = omega (arith, two)
live_not_words Memory two = omega (arith, two)
live_not_words LongInput two = omega (arith, two)

-- of one that wasn't
module _ {P : Type 0} (k : Keeper P) (x : LiveAsked) (old new : P) where
  fault_number : (f : RunFault) → Refuses k x old new f → IsLiveNumber (status_number (status_of f))
  fault_number (BadFile name kind line) why = inr (inr (inl refl))
  fault_number Limit why = inr (inr (inr (inr (inr (inr (inr (inr (inl refl))))))))
  fault_number Reading why = inr (inr (inr (inl refl)))
  fault_number Writing why = absurd why
  fault_number Lacking why = inr (inr (inr (inr (inr (inr (inr (inl refl)))))))

  fault_not_words : (f : RunFault) → Refuses k x old new f → status_number (status_of f) ≢ 2
  fault_not_words (BadFile name kind line) why two = omega (arith, two)
  fault_not_words Limit why two = omega (arith, two)
  fault_not_words Reading why two = omega (arith, two)
  fault_not_words Writing why two = absurd why
  fault_not_words Lacking why two = omega (arith, two)

  fault_bad : (f : RunFault) (files : Files) → IsLiveNamed (named_in x) → k.files old ≡ Some files →
      Refuses k x old new f → TellsBadFiles files x (status_number (status_of f))
  fault_bad (BadFile name kind line) files named told why = (
    λ other more number bad. inl refl,
    λ beyond. absurd (live_or_bad files (named_in x) beyond.contents name kind line named
        beyond.holds (subst (λ (fs : Option Files). FirstBadLive fs (named_in x) name kind line)
        told
        why)),
  )
  fault_bad Limit files named told why = (
    λ name kind line bad.
        let beyond = subst (λ (fs : Option Files). ExceedsLive fs (named_in x)) told why in
        absurd (live_or_bad files (named_in x) beyond.contents name kind line named beyond.holds
        bad),
    λ beyond. inl refl,
  )
  fault_bad Reading files named told why =
      (λ name kind line bad. inr (inl refl), λ beyond. inr (inl refl))
  fault_bad Writing files named told why = absurd why
  fault_bad Lacking files named told why =
      (λ name kind line bad. inr (inr refl), λ beyond. inr (inr refl))

-- files that are read have no fault
read_bad : (files : Files) (x : LiveAsked) (t : LiveContents) (status : ℕ) →
    IsLiveNamed (named_in x) → IsLiveOf (Some files) (named_in x) t → TellsBadFiles files x status
read_bad files x t status named is = (
  λ name kind line bad.
      absurd (live_or_bad files (named_in x) t name kind line named is.holds bad),
  λ beyond. absurd (live_or_limit files (named_in x) t named is beyond),
)

-- what the files say, where they are told
if_told : (told : Option Files) (x : LiveAsked) (status : ℕ) →
    ((files : Files) → told ≡ Some files → TellsBadFiles files x status) →
    IfSome told (λ files. TellsBadFiles files x status)
if_told None x status each = tt
if_told (Some files) x status each = each files refl

module _ {P A O L M C : Type 0} (k : Keeper P) (a : Source A) (o : Sink O) (l : Link L)
    (m : Source M) (c : Sink C) (x : LiveAsked) (old : Outside P A O L M C)
    (e : End P A O L M C) (named : IsLiveNamed (named_in x)) where
  number : Plays k a o l m c x old e → IsLiveNumber e.status
  number (played h) =
      subst IsLiveNumber (sym h.closed.status_is) (live_number h.closed.status)
  number (refused h) =
      subst IsLiveNumber (sym h.status_is)
      (fault_number k x old.keeper e.outside.keeper h.fault h.cause)

  not_words : Plays k a o l m c x old e → e.status ≢ 2
  not_words (played h) two = live_not_words h.closed.status (sym h.closed.status_is ∙ two)
  not_words (refused h) two =
      fault_not_words k x old.keeper e.outside.keeper h.fault h.cause (sym h.status_is ∙ two)

  bad : Plays k a o l m c x old e →
      IfSome (k.files old.keeper) (λ files. TellsBadFiles files x e.status)
  bad (played h) =
      if_told (k.files old.keeper) x e.status
      (λ files told. read_bad files x h.contents e.status named
      (subst (λ (fs : Option Files). IsLiveOf fs (named_in x) h.contents) told h.files_are_read))
  bad (refused h) =
      if_told (k.files old.keeper) x e.status
      (λ files told. subst (TellsBadFiles files x) (sym h.status_is)
      (fault_bad k x old.keeper e.outside.keeper h.fault files named told h.cause))

  -- the words ask for this session
  pub runs : (asked : Option LiveAsked) → asked ≡ Some x → Plays k a o l m c x old e →
      RunsLive k a o l m c asked old e
  runs None is plays = absurd (cc)
  runs (Some y) is plays =
      subst (λ (q : Option LiveAsked). RunsLive k a o l m c q old e) (sym is) (record {
        statuses = number plays;
        words = (λ two. absurd (not_words plays two), λ none. absurd (cc));
        other_words = λ none. absurd (cc);
        session = inr plays;
        bad_files = bad plays;
      })

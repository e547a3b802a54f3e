-- Serving MIDI goes on, turn by turn.
use Rattle.std.proofs.Common.{◌≡◌, ◌≤◌, inl, inr, ℕ, Bool, true, false, List, [], ◌∷◌, ◌++◌, Option, Some, None, refl, sym, ap, ◌∙◌, subst, append_assoc, length-append, arith}
use Rattle.std.specs.Prelude.{is_some, IfNone, IfSome}
use Rattle.sl_base.specs.Counting.{Rose}
use Rattle.event_rings.specs.Ends.{TakeEnd, SameTakeRing, IsEmpty, TakesNext}
use Rattle.live_ports.specs.Sources.{SourceSeen, Consumes}
use Rattle.senders.specs.Senders.{MidiSenderOf}
use Rattle.midi_serving.specs.declared.serving.MidiEnd.{MidiEnd}
use Rattle.midi_serving.specs.declared.serving.MidiEnd.TheVariants as ends
use Rattle.midi_serving.specs.Serving.{MidiWent, HasRead, MidiCause, TookEnd, MidiDid}
use Rattle.midi_serving.specs.Turns.{ReadsOnce, TurnsOnce}
use Rattle.midi_serving.proofs.HearingLemmas.{heard_none, heard_joined}

consumes_none : (left left' : Option (List ℕ)) → left' ≡ left → Consumes left [] left'
consumes_none None left' e = tt
consumes_none (Some l) left' e = subst (Consumes (Some l) []) (sym e) refl

consumes_joined : (a b c : Option (List ℕ)) (xs ys : List ℕ) → Consumes a xs b →
    Consumes b ys c → Consumes a (xs ++ ys) c
consumes_joined None b c xs ys p q = tt
consumes_joined (Some l) None c xs ys p q = elim p [ ]
consumes_joined (Some l) (Some m) None xs ys p q = elim q [ ]
consumes_joined (Some l) (Some m) (Some n) xs ys p q =
    p ∙ ap (λ r. xs ++ r) q ∙ sym (append_assoc xs ys n)

-- nothing was read
pub went_none : (l : SourceSeen) (a : MidiSenderOf) → MidiWent [] l l a a
went_none l a =
    record {
      read = consumes_none l.left l.left refl;
      hears = heard_none a;
      faults = omega arith;
      idles = omega arith;
    }

-- one passage behind another
pub went_joined : (xs ys : List ℕ) (l l' l'' : SourceSeen) (a b c : MidiSenderOf) →
    MidiWent xs l l' a b → MidiWent ys l' l'' b c → MidiWent (xs ++ ys) l l'' a c
went_joined xs ys l l' l'' a b c x y =
    let f = x.faults in
    let f' = y.faults in
    let i = x.idles in
    let i' = y.idles in
    record {
      read = consumes_joined l.left l'.left l''.left xs ys x.read y.read;
      hears = heard_joined xs ys a b c x.hears y.hears;
      faults = omega arith;
      idles = omega arith;
    }

rose_later : (n m k : ℕ) → n ≤ m → Rose m k → Rose n k
rose_later n m k later rose = omega arith

has_read_later : (l l' l'' : SourceSeen) (xs ys : List ℕ) → l.faults ≤ l'.faults →
    l.idles ≤ l'.idles → HasRead ys l' l'' → HasRead (xs ++ ys) l l''
has_read_later l l' l'' xs ys faults idles (inl some) =
    let both = length-append xs ys in inl (omega arith)
has_read_later l l' l'' xs ys faults idles (inr (inl ended)) = inr (inl ended)
has_read_later l l' l'' xs ys faults idles (inr (inr (inl rose))) =
    inr (inr (inl (rose_later l.idles l'.idles l''.idles idles rose)))
has_read_later l l' l'' xs ys faults idles (inr (inr (inr rose))) =
    inr (inr (inr (rose_later l.faults l'.faults l''.faults faults rose)))

-- a turn behind what went before
pub once_joined : (xs : List ℕ) (l l' l'' : SourceSeen) (a b c : MidiSenderOf) →
    MidiWent xs l l' a b → ReadsOnce l' l'' b c → ReadsOnce l l'' a c
once_joined xs l l' l'' a b c x y =
    record {
      bytes = xs ++ y.bytes;
      went = went_joined xs y.bytes l l' l'' a b c x y.went;
      has_read = has_read_later l l' l'' xs y.bytes x.faults x.idles y.has_read;
    }

-- a cause of the last turn is one of all of them, where no read failed before
pub cause_later : (l l' l'' : SourceSeen) (e : MidiEnd) → l'.faults ≡ l.faults →
    MidiCause l' l'' e → MidiCause l l'' e
cause_later l l' l'' ends.Over same c = (c.0, c.1 ∙ same)
cause_later l l' l'' ends.End same c = (c.0, c.1 ∙ same)
cause_later l l' l'' ends.ReadFault same c =
    (c.0, rose_later l.faults l'.faults l''.faults (let e = same in omega arith) c.1)

-- what all turns but the last keep
pub record SoFar (l l' : SourceSeen) (a b : MidiSenderOf) (over over' : TakeEnd ℕ) : Type 0 where
  pub bytes : List ℕ
  pub went : MidiWent bytes l l' a b
  pub faults : l'.faults ≡ l.faults
  pub ring : SameTakeRing over over'
  pub taken : over'.taken ≡ over.taken

pub so_far_none : (l : SourceSeen) (a : MidiSenderOf) (over : TakeEnd ℕ) → SoFar l l a a over over
so_far_none l a over =
    record {
      bytes = [];
      went = went_none l a;
      faults = refl;
      ring = record { name = refl; kind = refl; capacity = refl; limit = refl; bound = refl };
      taken = refl;
    }

ring_joined : (a b c : TakeEnd ℕ) → SameTakeRing a b → SameTakeRing b c → SameTakeRing a c
ring_joined a b c x y =
    record {
      name = y.name ∙ x.name;
      kind = y.kind ∙ x.kind;
      capacity = y.capacity ∙ x.capacity;
      limit = y.limit ∙ x.limit;
      bound = y.bound ∙ x.bound;
    }

did : (l l' : SourceSeen) (a b : MidiSenderOf) (over over' : TakeEnd ℕ) (e : MidiEnd) →
    ReadsOnce l l' a b → MidiCause l l' e → SameTakeRing over over' → TookEnd over over' e →
    MidiDid l l' a b over over' e
did l l' a b over over' e once cause ring told =
    record {
      bytes = once.bytes;
      went = once.went;
      has_read = once.has_read;
      cause = cause;
      ring = ring;
      told = told;
    }

-- serving ended with a turn
pub did_turn : (l l' l'' : SourceSeen) (a b c : MidiSenderOf) (over over' : TakeEnd ℕ)
    (e : MidiEnd) → SoFar l l' a b over over' → TurnsOnce l' l'' b c (Some e) →
    MidiDid l l'' a c over over' e
did_turn l l' l'' a b c over over' ends.Over x t = elim t [ ]
did_turn l l' l'' a b c over over' ends.End x t =
    did l l'' a c over over' ends.End (once_joined x.bytes l l' l'' a b c x.went t.0)
    (cause_later l l' l'' ends.End x.faults t.1) x.ring x.taken
did_turn l l' l'' a b c over over' ends.ReadFault x t =
    did l l'' a c over over' ends.ReadFault (once_joined x.bytes l l' l'' a b c x.went t.0)
    (cause_later l l' l'' ends.ReadFault x.faults t.1) x.ring x.taken

-- the session is over, as was told behind a turn
pub did_over : (l l' l'' : SourceSeen) (a b c : MidiSenderOf) (o o' o'' : TakeEnd ℕ) →
    SoFar l l' a b o o' → TurnsOnce l' l'' b c None → SameTakeRing o' o'' → (n : ℕ) →
    o''.taken ≡ o'.taken ++ n ∷ [] → MidiDid l l'' a c o o'' ends.Over
did_over l l' l'' a b c o o' o'' x t ring n taken =
    did l l'' a c o o'' ends.Over (once_joined x.bytes l l' l'' a b c x.went t.0)
    (cause_later l l' l'' ends.Over x.faults t.1) (ring_joined o o' o'' x.ring ring)
    (n, taken ∙ ap (λ k. k ++ n ∷ []) x.taken)

-- the session isn't over
pub so_far_joined : (l l' l'' : SourceSeen) (a b c : MidiSenderOf) (o o' o'' : TakeEnd ℕ) →
    SoFar l l' a b o o' → TurnsOnce l' l'' b c None → SameTakeRing o' o'' →
    o''.taken ≡ o'.taken → SoFar l l'' a c o o''
so_far_joined l l' l'' a b c o o' o'' x t ring taken =
    record {
      bytes = x.bytes ++ t.0.bytes;
      went = went_joined x.bytes t.0.bytes l l' l'' a b c x.went t.0.went;
      faults = t.1.1 ∙ x.faults;
      ring = ring_joined o o' o'' x.ring ring;
      taken = taken ∙ x.taken;
    }

not_both : (b : Bool) → b ≡ true → b ≡ false → ⊥
not_both b p q = (cc)

-- a take that gave nothing took nothing
pub none_taken : (o : Option ℕ) (before after : TakeEnd ℕ) → is_some o ≡ false →
    IfNone o (IsEmpty before after) → after.taken ≡ before.taken
none_taken None before after e empty = empty.taken
none_taken (Some n) before after e empty = elim (not_both true refl e) [ ]

-- a take that gave a number took it
pub some_taken : (follows : List ℕ → ℕ → ℕ → Type 0) (o : Option ℕ) (before after : TakeEnd ℕ) →
    is_some o ≡ true → IfSome o (λ n. TakesNext follows n before after) →
    (n : ℕ) × (after.taken ≡ before.taken ++ n ∷ [])
some_taken follows None before after e next = elim (not_both false e refl) [ ]
some_taken follows (Some n) before after e next = (n, next.taken)

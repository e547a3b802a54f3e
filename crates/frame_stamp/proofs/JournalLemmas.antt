-- A journal with one entry more.
use Rattle.std.proofs.Common.{◌≡◌, ℕ, zero, suc, ◌+◌, ◌≤◌, ◌<◌, Bool, true, false, List, [], ◌∷◌, ◌++◌, length, set, get_or, get_or-set_same, get_or-set_other, refl, sym, ap, ap₂, ◌∙◌, subst, arith, length-append, eq-eqb, cond, append-nil, ◌&&◌}
use Rattle.std.specs.Prelude.{◌==◌}
use Rattle.std.proofs.lemmas.Bool.{le-leb, eqb-false, eqb-true}
use Rattle.std.proofs.lemmas.List.Elements.{filter-append}
use Rattle.sl_commands.specs.declared.Entry.{Entry}
use Rattle.sl_commands.specs.declared.Command.{Command}
use Rattle.sl_commands.specs.Entries.{entries_of, last_frame}
use Rattle.sl_commands.proofs.EntriesLemmas.{are_stamped-push}
use Rattle.frame_stamp.specs.Journals.{JournalOf, HasRoom, room_of, next_seq, next_entry, IsJournal}

-- only three senders have room
pub sender_is_known : (sender n quota : ℕ) → n < room_of sender quota → sender < 3
sender_is_known zero n quota room = omega arith
sender_is_known (suc zero) n quota room = omega arith
sender_is_known (suc (suc zero)) n quota room = omega arith
sender_is_known (suc (suc (suc sender))) n quota room = absurd (omega arith)

-- a list of one entry or none, behind others
length-one : (b : Bool) (e : Entry) (es : List Entry) → b ≡ true →
    length (es ++ cond b (e ∷ []) []) ≡ length es + 1
length-one b e es is = rw is (length-append es (e ∷ []))

length-none : (b : Bool) (e : Entry) (es : List Entry) → b ≡ false →
    length (es ++ cond b (e ∷ []) []) ≡ length es
length-none b e es is = rw is (ap length (append-nil es))

-- its sender's next number is one more
next_seq-same : (es : List Entry) (e : Entry) (sender : ℕ) → (e.sender == sender) ≡ true →
    next_seq sender (es ++ e ∷ []) ≡ next_seq sender es + 1
next_seq-same es e sender is =
    ap length (filter-append (λ (other : Entry). other.sender == sender) es (e ∷ []))
    ∙ length-one (e.sender == sender) e (entries_of sender es) is

-- those of the others stay
next_seq-other : (es : List Entry) (e : Entry) (sender : ℕ) → (e.sender == sender) ≡ false →
    next_seq sender (es ++ e ∷ []) ≡ next_seq sender es
next_seq-other es e sender is =
    ap length (filter-append (λ (other : Entry). other.sender == sender) es (e ∷ []))
    ∙ length-none (e.sender == sender) e (entries_of sender es) is

-- a sender's numbers stay within its room
within_more :
    (es : List Entry) (e : Entry) (quota sender : ℕ) (is : Bool) → (e.sender == sender) ≡ is →
    next_seq e.sender es < room_of e.sender quota → next_seq sender es ≤ room_of sender quota →
    next_seq sender (es ++ e ∷ []) ≤ room_of sender quota
within_more es e quota sender true is room within =
    let less : next_seq sender es < room_of sender quota =
    subst (λ k. next_seq k es < room_of k quota) (eqb-true e.sender sender is) room
    in let more = next_seq-same es e sender is
    in omega arith
within_more es e quota sender false is room within = rw (next_seq-other es e sender is) within

-- the counts with one more are the next numbers
seqs_more :
    (es : List Entry) (e : Entry) (counts : List ℕ) (sender : ℕ) (is : Bool) →
    (e.sender == sender) ≡ is →
    e.sender < length counts → get_or counts sender 0 ≡ next_seq sender es →
    get_or (set counts e.sender (get_or counts e.sender 0 + 1)) sender 0 ≡ next_seq sender
    (es ++ e ∷ [])
seqs_more es e counts sender true is fits seq =
    let more = get_or counts e.sender 0 + 1
    in let same : e.sender ≡ sender = eqb-true e.sender sender is
    in let now : get_or (set counts e.sender more) sender 0 ≡ get_or counts sender 0 + 1 =
    subst (λ k. get_or (set counts e.sender more) k 0 ≡ get_or counts k 0 + 1) same
    (get_or-set_same counts e.sender more 0 fits)
    in now ∙ ap (λ n. n + 1) seq ∙ sym (next_seq-same es e sender is)
seqs_more es e counts sender false is fits seq =
    let more = get_or counts e.sender 0 + 1
    in get_or-set_other counts e.sender sender more 0
    (λ same. eqb-false e.sender sender is (sym same))
    ∙ seq
    ∙ sym (next_seq-other es e sender is)

-- the sum of the counts is one more
sum_more :
    (counts : List ℕ) (sender : ℕ) → length counts ≡ 3 → sender < 3 →
    get_or (set counts sender (get_or counts sender 0 + 1)) 0 0
    + get_or (set counts sender (get_or counts sender 0 + 1)) 1 0
    + get_or (set counts sender (get_or counts sender 0 + 1)) 2 0
    ≡ get_or counts 0 0 + get_or counts 1 0 + get_or counts 2 0 + 1
sum_more (a ∷ b ∷ c ∷ rest) zero three less = omega arith
sum_more (a ∷ b ∷ c ∷ rest) (suc zero) three less = omega arith
sum_more (a ∷ b ∷ c ∷ rest) (suc (suc zero)) three less = omega arith
sum_more (a ∷ b ∷ c ∷ rest) (suc (suc (suc sender))) three less = absurd (omega arith)
sum_more (a ∷ b ∷ []) sender three less = absurd (omega arith)
sum_more (a ∷ []) sender three less = absurd (omega arith)
sum_more [] sender three less = absurd (omega arith)

-- all that a journal keeps, with one entry more
journal_more :
    (es : List Entry) (quota capacity : ℕ) (counts : List ℕ) (frame sender : ℕ)
    (command : Command) → length counts ≡ 3 →
    IsJournal es quota capacity counts → next_seq sender es < room_of sender quota →
    last_frame es ≤ frame →
    IsJournal (es ++ next_entry frame sender command es ∷ []) quota capacity
    (set counts sender (get_or counts sender 0 + 1))
journal_more es quota capacity counts frame sender command three h room late =
    let e = next_entry frame sender command es
    in let known : sender < 3 = sender_is_known sender (next_seq sender es) quota room
    in let fits : sender < length counts = omega arith
    in let behind = ap₂ (λ a b. a && b) (le-leb (last_frame es) frame late)
    (eq-eqb (next_seq sender es) (next_seq sender es) refl)
    in record {
      stamped = are_stamped-push es e ∙ ap₂ (λ a b. a && b) h.stamped behind;
      reserved = h.reserved;
      small = h.small;
      seqs = λ k less. seqs_more es e counts k (sender == k) refl fits (h.seqs k less);
      within = λ k. within_more es e quota k (sender == k) refl room (h.within k);
      all = (let sums = sum_more counts sender three known in
          let more = length-append es (e ∷ []) in let was = h.all in omega arith);
    }

-- the same of the fields of a journal, once an entry was written
pub journal_stamped :
    (es es' : List Entry) (quota capacity capacity' : ℕ) (counts : List ℕ) (frame sender : ℕ)
    (command : Command) (j : JournalOf) →
    record { entries = es; quota = quota } ≡ j → length counts ≡ 3 →
    IsJournal es quota capacity counts → HasRoom sender j →
    last_frame j.entries ≤ frame → capacity' ≡ capacity →
    es' ≡ es ++ record {
      frame = frame;
      sender = sender;
      seq = get_or counts sender 0;
      command =
          command;
    } ∷ [] →
    IsJournal es' quota capacity' (set counts sender (get_or counts sender 0 + 1))
journal_stamped es es' quota capacity capacity' counts frame sender command j is three h room late
    same grown =
    let room' : next_seq sender es < room_of sender quota = subst (HasRoom sender) (sym is) room
    in let late' : last_frame es ≤ frame =
    subst (λ (k : JournalOf). last_frame k.entries ≤ frame) (sym is) late
    in let seq : get_or counts sender 0 ≡ next_seq sender es =
    h.seqs sender (sender_is_known sender (next_seq sender es) quota room')
    in let now : es' ≡ es ++ next_entry frame sender command es ∷ [] =
    grown ∙ ap (λ n. es
    ++ (let e : Entry = record { frame = frame; sender = sender; seq = n; command = command } in
    e) ∷ []) seq
    in let more = journal_more es quota capacity counts frame sender command three h room' late'
    in let counts' = set counts sender (get_or counts sender 0 + 1)
    in let wider = subst (λ n. IsJournal (es ++ next_entry frame sender command es ∷ []) quota n
    counts') (sym same) more
    in subst (λ zs. IsJournal zs quota capacity' counts') (sym now) wider

-- What is kept beside the entries so far, with one more at the end.
use Rattle.std.proofs.Common.{◌≡◌, ◌≢◌, ◌==◌, ◌⊎◌, ℕ, zero, suc, ◌+◌, ◌<◌, ◌≤◌, List, [], ◌∷◌, ◌++◌, length, get_or, set, cond, refl, sym, ap, ◌∙◌, subst, arith, inl, inr, get_or-set_same, get_or-set_other, length-append}
use Rattle.std.proofs.lemmas.Bool.{cases_eq, eq-eqb, ne_eqb}
use Rattle.std.proofs.lemmas.List.Elements.{filter-append}
use Rattle.sl_commands.specs.declared.entry.Entry.{Entry}
use Rattle.sl_commands.specs.Entries.{entries_of, last_frame}
use Rattle.sl_commands.proofs.EntriesLemmas.{last_frame-push}
use Rattle.journal_text.specs.Journals.{max_lines}
use Rattle.journal_text.specs.SoFars.{IsSoFar}
use Rattle.journal_text.specs.declared.so_far.SoFar.TheInside.{Inside}

-- how many entries a sender has, with one more at the end
pub count-push : (sender : ℕ) (es : List Entry) (e : Entry) →
    length (entries_of sender (es ++ e ∷ [])) ≡ length (entries_of sender es)
    + length (cond (e.sender == sender) (e ∷ []) [])
count-push sender es e =
    ap length (filter-append (λ x. x.sender == sender) es (e ∷ []))
    ∙ length-append (entries_of sender es) (cond (e.sender == sender) (e ∷ []) [])

-- the count of the entry's own sender
pub own_count : (es : List Entry) (e : Entry) →
    length (entries_of e.sender (es ++ e ∷ [])) ≡ length (entries_of e.sender es) + 1
own_count es e =
    count-push e.sender es e
    ∙ ap (λ b. length (entries_of e.sender es) + length (cond b (e ∷ []) []))
    (eq-eqb e.sender e.sender refl)

-- the count of another
pub other_count : (sender : ℕ) (es : List Entry) (e : Entry) → e.sender ≢ sender →
    length (entries_of sender (es ++ e ∷ [])) ≡ length (entries_of sender es)
other_count sender es e apart =
    let more = count-push sender es e
    ∙ ap (λ b. length (entries_of sender es) + length (cond b (e ∷ []) []))
    (ne_eqb e.sender sender apart) in
    omega (arith, more)

-- the counts, with one more of the entry's sender
pub counted :
    (counts : List ℕ) (sender : ℕ) (es : List Entry) (e : Entry) → e.sender < length counts
    → get_or counts e.sender 0 ≡ length (entries_of e.sender es) →
    get_or counts sender 0 ≡ length (entries_of sender es)
    → get_or (set counts e.sender (get_or counts e.sender 0 + 1)) sender 0 ≡ length
    (entries_of sender (es ++ e ∷ []))
counted counts sender es e there own is =
    elim (cases_eq e.sender sender) [
      | inl same ↦
          subst (λ (s : ℕ). get_or (set counts e.sender (get_or counts e.sender 0 + 1)) s 0 ≡ length
          (entries_of s (es ++ e ∷ []))) same
          (rw get_or-set_same (ap (λ (n : ℕ). n + 1) own ∙ sym (own_count es e)))
      | inr apart ↦
          let other : sender ≢ e.sender = λ same. apart (sym same) in
          rw get_or-set_other (is ∙ sym (other_count sender es e apart))
    ]

-- a number up to 2
pub three : (n : ℕ) → n ≤ 2 → (n ≡ 0) ⊎ ((n ≡ 1) ⊎ (n ≡ 2))
three zero low = inl refl
three (suc zero) low = inr (inl refl)
three (suc (suc zero)) low = inr (inr refl)
three (suc (suc (suc n))) low = absurd (omega arith)

-- the count of one of them
count_at : (s : Inside) (sender : ℕ) → (sender ≡ 0) ⊎ ((sender ≡ 1) ⊎ (sender ≡ 2)) → IsSoFar s →
    get_or s.counts sender 0 ≡ length (entries_of sender s.entries)
count_at s sender (inl e) is =
    subst (λ n. get_or s.counts n 0 ≡ length (entries_of n s.entries)) (sym e) is.osc
count_at s sender (inr (inl e)) is =
    subst (λ n. get_or s.counts n 0 ≡ length (entries_of n s.entries)) (sym e) is.midi
count_at s sender (inr (inr e)) is =
    subst (λ n. get_or s.counts n 0 ≡ length (entries_of n s.entries)) (sym e) is.saver

-- the count of a sender
pub count_of : (s : Inside) (sender : ℕ) → IsSoFar s → sender ≤ 2 →
    get_or s.counts sender 0 ≡ length (entries_of sender s.entries)
count_of s sender is low = count_at s sender (three sender low) is

-- with one more entry the same is kept
pub so_far_push :
    (s : Inside) (e : Entry) (entries : List Entry) (next : Inside) → IsSoFar s →
    entries ≡ s.entries ++ e ∷ [] → e.sender ≤ 2 → length s.counts ≡ 3 →
    length s.entries < max_lines
    → next.entries ≡ entries → next.last ≡ e.frame →
    next.counts ≡ set s.counts e.sender (get_or s.counts e.sender 0 + 1) → IsSoFar next
so_far_push s e entries next is more sender three_counts room same_entries same_last same_counts =
    let own = count_of s e.sender is sender in
    let there : e.sender < length s.counts = omega arith in
    let all = same_entries ∙ more in
    record {
      room = omega (arith, ap length all, length-append s.entries (e ∷ []));
      last = same_last ∙ sym (last_frame-push 0 s.entries e) ∙ ap last_frame (sym all);
      osc = ap (λ (cs : List ℕ). get_or cs 0 0) same_counts ∙ counted s.counts 0 s.entries e there
          own is.osc ∙ ap (λ (xs : List Entry). length (entries_of 0 xs)) (sym all);
      midi = ap (λ (cs : List ℕ). get_or cs 1 0) same_counts ∙ counted s.counts 1 s.entries e there
          own is.midi ∙ ap (λ (xs : List Entry). length (entries_of 1 xs)) (sym all);
      saver = ap (λ (cs : List ℕ). get_or cs 2 0) same_counts ∙ counted s.counts 2 s.entries e there
          own is.saver ∙ ap (λ (xs : List Entry). length (entries_of 2 xs)) (sym all);
    }

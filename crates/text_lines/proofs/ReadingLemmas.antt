-- A text has one reading: one list of things, or one first fault.
use Rattle.std.proofs.Common.{◌≡◌, ◌≢◌, ℕ, ◌+◌, List, [], ◌∷◌, ◌++◌, length, refl, sym, ap, ◌∙◌, subst, arith}
use Rattle.std.proofs.lemmas.List.{append_assoc, append-nil}
use Rattle.sl_commands.specs.declared.fault.TextKind.{TextKind}
use Rattle.sl_commands.specs.declared.fault.TextKind.TheVariants.{Header, Ending}
use Rattle.text_lines.specs.Lines.{Lacks, end_word, lines_then}
use Rattle.text_lines.specs.FirstFaults.{TextForm, MayAllFollow, IsText, FirstFault, no_line, no_header, wrong_line, no_end, behind_end, IsSettled}

-- what a byte doesn't stand in is cut at it in one way
pub cut_is_one : (byte : ℕ) (front rest other behind : List ℕ) → Lacks byte front →
    Lacks byte other → front ++ (byte ∷ rest) ≡ other ++ (byte ∷ behind) → (front ≡ other)
    × (rest ≡ behind)
cut_is_one byte [] rest [] behind lacks lacks_too same = (refl, (Prim.cc))
cut_is_one byte [] rest (b ∷ other) behind lacks lacks_too same = absurd (lacks_too.0 (Prim.cc))
cut_is_one byte (b ∷ front) rest [] behind lacks lacks_too same = absurd (lacks.0 (Prim.cc))
cut_is_one byte (b ∷ front) rest (c ∷ other) behind lacks lacks_too same =
    let tails : front ++ (byte ∷ rest) ≡ other ++ (byte ∷ behind) = Prim.cc in
    let heads : b ≡ c = Prim.cc in
    let parts = cut_is_one byte front rest other behind lacks.1 lacks_too.1 tails in
    (Prim.cc (heads, parts.0), parts.1)

-- a byte stands where it stands
pub there : (byte : ℕ) (front rest : List ℕ) → ¬ Lacks byte (front ++ (byte ∷ rest))
there byte [] rest lacks = lacks.0 refl
there byte (b ∷ front) rest lacks = there byte front rest lacks.1

-- what stops the reading behind good lines: a whole line that is wrong, no whole line, something
-- behind `end`, or `end` alone
pub data Stop : Type 0 where
  ended : Stop
  stopped : ℕ → TextKind → Stop

pub data StopsAt {A : Type 0} (form : TextForm A) (items : List A) (tail : List ℕ)
    (stop : Stop) : Type 0 where
  at_wrong : (wrong rest : List ℕ) (kind : TextKind) → tail ≡ wrong ++ (10 ∷ rest) →
      Lacks 10 wrong → (form.Due items → wrong ≢ end_word) → form.Wrong items wrong kind →
      stop ≡ stopped (length items + 2) kind → StopsAt form items tail stop
  at_none : Lacks 10 tail → stop ≡ stopped (length items + 2) Ending → StopsAt form items tail stop
  at_more : (rest : List ℕ) → tail ≡ end_word ++ (10 ∷ rest) → form.Due items → rest ≢ [] →
      stop ≡ stopped (length items + 3) Ending → StopsAt form items tail stop
  at_end : tail ≡ end_word ++ (10 ∷ []) → form.Due items → stop ≡ ended →
      StopsAt form items tail stop

-- `end` has no line feed
end_is_whole : Lacks 10 end_word
end_is_whole = (λ e. Prim.omega arith, (λ e. Prim.omega arith, (λ e. Prim.omega arith, tt)))

-- a whole line and what stands behind it, in one way
lines_agree : (tail front rest other behind : List ℕ) → tail ≡ front ++ (10 ∷ rest) → tail ≡ other
    ++ (10 ∷ behind) → Lacks 10 front → Lacks 10 other → (front ≡ other) × (rest ≡ behind)
lines_agree tail front rest other behind is is_too lacks lacks_too =
    cut_is_one 10 front rest other behind lacks lacks_too (sym is ∙ is_too)

-- a tail with a line isn't without one
has_line : (tail front rest : List ℕ) → tail ≡ front ++ (10 ∷ rest) → ¬ Lacks 10 tail
has_line tail front rest is lacks = there 10 front rest (subst (λ bs. Lacks 10 bs) is lacks)

-- a line that is wrong, seen twice
twice_wrong :
    {A : Type 0} (form : TextForm A) → IsSettled form → (items : List A) (tail wrong rest : List ℕ)
    (kind : TextKind) (stop other : Stop)
    → tail ≡ wrong ++ (10 ∷ rest) → Lacks 10 wrong → (form.Due items → wrong ≢ end_word) →
    form.Wrong items wrong kind → stop ≡ stopped (length items + 2) kind →
    StopsAt form items tail other → stop ≡ other
twice_wrong form settled items tail wrong rest kind stop other is lacks apart bad stops
    (at_wrong line behind kind_too is_too lacks_too apart_too bad_too stops_too) =
    let same = (lines_agree tail wrong rest line behind is is_too lacks lacks_too).0 in
    let one = settled.one_kind items wrong kind kind_too bad
    (subst (λ l. form.Wrong items l kind_too) (sym same) bad_too) in
    stops ∙ ap (stopped (length items + 2)) one ∙ sym stops_too
twice_wrong form settled items tail wrong rest kind stop other is lacks apart bad stops
    (at_none none stops_too) = absurd (has_line tail wrong rest is none)
twice_wrong form settled items tail wrong rest kind stop other is lacks apart bad stops
    (at_more behind is_too due some stops_too) =
    absurd (apart due (lines_agree tail wrong rest end_word behind is is_too lacks end_is_whole).0)
twice_wrong form settled items tail wrong rest kind stop other is lacks apart bad stops
    (at_end is_too due stops_too) =
    absurd (apart due (lines_agree tail wrong rest end_word [] is is_too lacks end_is_whole).0)

-- no whole line, seen twice
twice_none :
    {A : Type 0} (form : TextForm A) (items : List A) (tail : List ℕ) (stop other : Stop)
    → Lacks 10 tail → stop ≡ stopped (length items + 2) Ending → StopsAt form items tail other →
    stop ≡ other
twice_none form items tail stop other none stops
    (at_wrong line behind kind is lacks apart bad stops_too) =
    absurd (has_line tail line behind is none)
twice_none form items tail stop other none stops (at_none none_too stops_too) =
    stops ∙ sym stops_too
twice_none form items tail stop other none stops (at_more behind is due some stops_too) =
    absurd (has_line tail end_word behind is none)
twice_none form items tail stop other none stops (at_end is due stops_too) =
    absurd (has_line tail end_word [] is none)

-- something behind `end`, seen twice
twice_more :
    {A : Type 0} (form : TextForm A) → IsSettled form → (items : List A) (tail rest : List ℕ)
    (stop other : Stop)
    → tail ≡ end_word ++ (10 ∷ rest) → form.Due items → rest ≢ [] →
    stop ≡ stopped (length items + 3) Ending → StopsAt form items tail other → stop ≡ other
twice_more form settled items tail rest stop other is due some stops
    (at_wrong line behind kind is_too lacks apart bad stops_too) =
    absurd (apart due (lines_agree tail line behind end_word rest is_too is lacks end_is_whole).0)
twice_more form settled items tail rest stop other is due some stops (at_none none stops_too) =
    absurd (has_line tail end_word rest is none)
twice_more form settled items tail rest stop other is due some stops
    (at_more behind is_too due_too some_too stops_too) = stops ∙ sym stops_too
twice_more form settled items tail rest stop other is due some stops
    (at_end is_too due_too stops_too) =
    absurd (some (lines_agree tail end_word rest end_word [] is is_too end_is_whole end_is_whole).1)

-- `end` alone, seen twice
twice_end :
    {A : Type 0} (form : TextForm A) → IsSettled form → (items : List A) (tail : List ℕ)
    (stop other : Stop)
    → tail ≡ end_word ++ (10 ∷ []) → form.Due items → stop ≡ ended → StopsAt form items tail other →
    stop ≡ other
twice_end form settled items tail stop other is due stops
    (at_wrong line behind kind is_too lacks apart bad stops_too) =
    absurd (apart due (lines_agree tail line behind end_word [] is_too is lacks end_is_whole).0)
twice_end form settled items tail stop other is due stops (at_none none stops_too) =
    absurd (has_line tail end_word [] is none)
twice_end form settled items tail stop other is due stops
    (at_more behind is_too due_too some stops_too) =
    absurd (some (lines_agree tail end_word behind end_word [] is_too is end_is_whole
    end_is_whole).1)
twice_end form settled items tail stop other is due stops (at_end is_too due_too stops_too) =
    stops ∙ sym stops_too

-- reading stops behind the same lines in one way
stop_is_one : {A : Type 0} (form : TextForm A) → IsSettled form → (items : List A) (tail : List ℕ)
    (stop other : Stop) → StopsAt form items tail stop → StopsAt form items tail other →
    stop ≡ other
stop_is_one form settled items tail stop other (at_wrong wrong rest kind is lacks apart bad stops)
    too = twice_wrong form settled items tail wrong rest kind stop other is lacks apart bad stops
    too
stop_is_one form settled items tail stop other (at_none none stops) too =
    twice_none form items tail stop other none stops too
stop_is_one form settled items tail stop other (at_more rest is due some stops) too =
    twice_more form settled items tail rest stop other is due some stops too
stop_is_one form settled items tail stop other (at_end is due stops) too =
    twice_end form settled items tail stop other is due stops too

-- reading doesn't stop before a line that may follow
goes_on : {A : Type 0} (form : TextForm A) → IsSettled form →
    (items : List A) (a : A) (tail rest : List ℕ) (stop : Stop) → form.Next items a →
    tail ≡ form.spell a ++ (10 ∷ rest) → ¬ StopsAt form items tail stop
goes_on form settled items a tail rest stop next is
    (at_wrong wrong behind kind is_too lacks apart bad stops) =
    let same = (lines_agree tail wrong behind (form.spell a) rest is_too is lacks
    (settled.whole items a next)).0 in
    settled.good items a kind next (subst (λ l. form.Wrong items l kind) same bad)
goes_on form settled items a tail rest stop next is (at_none none stops) =
    has_line tail (form.spell a) rest is none
goes_on form settled items a tail rest stop next is (at_more behind is_too due some stops) =
    settled.not_end items a next (lines_agree tail (form.spell a) rest end_word behind is is_too
    (settled.whole items a next) end_is_whole).0
goes_on form settled items a tail rest stop next is (at_end is_too due stops) =
    settled.not_end items a next
    (lines_agree tail (form.spell a) rest end_word [] is is_too (settled.whole items a next)
    end_is_whole).0

-- lines that may follow, and what stops the reading behind them
pub record Stretch {A : Type 0} (form : TextForm A) (before : List A) (lines : List ℕ)
    (items : List A) (stop : Stop) : Type 0 where
  pub tail : List ℕ
  pub follow : MayAllFollow form before items
  pub spelled : lines ≡ lines_then form.spell items tail
  pub stops : StopsAt form (before ++ items) tail stop

-- the lines of a text are one list and one stop
stretch_is_one :
    {A : Type 0} (form : TextForm A) → IsSettled form → (before items others : List A)
    (lines : List ℕ) (stop other : Stop)
    → Stretch form before lines items stop → Stretch form before lines others other →
    (items ≡ others) × (stop ≡ other)
stretch_is_one form settled before [] [] lines stop other is is_too =
    let here : StopsAt form before lines stop = subst (λ l. StopsAt form before l stop)
    (sym is.spelled) (subst (λ (xs : List _). StopsAt form xs is.tail stop) (append-nil before)
    is.stops) in
    let there_too : StopsAt form before lines other = subst (λ l. StopsAt form before l other)
    (sym is_too.spelled)
    (subst (λ (xs : List _). StopsAt form xs is_too.tail other) (append-nil before)
    is_too.stops) in
    (refl, stop_is_one form settled before lines stop other here there_too)
stretch_is_one form settled before [] (b ∷ others) lines stop other is is_too =
    let here : StopsAt form before lines stop = subst (λ l. StopsAt form before l stop)
    (sym is.spelled) (subst (λ (xs : List _). StopsAt form xs is.tail stop) (append-nil before)
    is.stops) in
    absurd (goes_on form settled before b lines (lines_then form.spell others is_too.tail) stop
    is_too.follow.0 is_too.spelled here)
stretch_is_one form settled before (a ∷ items) [] lines stop other is is_too =
    let here : StopsAt form before lines other = subst (λ l. StopsAt form before l other)
    (sym is_too.spelled)
    (subst (λ (xs : List _). StopsAt form xs is_too.tail other) (append-nil before)
    is_too.stops) in
    absurd (goes_on form settled before a lines (lines_then form.spell items is.tail) other
    is.follow.0 is.spelled here)
stretch_is_one form settled before (a ∷ items) (b ∷ others) lines stop other is is_too =
    let parts = lines_agree lines (form.spell a) (lines_then form.spell items is.tail)
    (form.spell b) (lines_then form.spell others is_too.tail) is.spelled is_too.spelled
    (settled.whole before a is.follow.0) (settled.whole before b is_too.follow.0) in
    let same : a ≡ b = settled.one before a b is.follow.0 is_too.follow.0 parts.0 in
    let moved = subst (λ (c : _). MayAllFollow form (before ++ c ∷ []) others) (sym same)
    is_too.follow.1 in
    let stops_a : StopsAt form ((before ++ a ∷ []) ++ items) is.tail stop =
    subst (λ (xs : List _). StopsAt form xs is.tail stop)
    (sym (append_assoc before (a ∷ []) items)) is.stops in
    let stops_b : StopsAt form ((before ++ b ∷ []) ++ others) is_too.tail other =
    subst (λ (xs : List _). StopsAt form xs is_too.tail other)
    (sym (append_assoc before (b ∷ []) others)) is_too.stops in
    let stops_b_too : StopsAt form ((before ++ a ∷ []) ++ others) is_too.tail other =
    subst (λ (c : _). StopsAt form ((before ++ c ∷ []) ++ others) is_too.tail other) (sym same)
    stops_b in
    let rest = stretch_is_one form settled (before ++ a ∷ []) items others
    (lines_then form.spell items is.tail) stop other
    (record { tail = is.tail; follow = is.follow.1; spelled = refl; stops = stops_a })
    (record { tail = is_too.tail; follow = moved; spelled = parts.1; stops = stops_b_too }) in
    (Prim.cc (same, rest.0), rest.1)

-- the header, and the lines behind it
pub behind_header : (header first rest lines bytes : List ℕ) → Lacks 10 header → Lacks 10 first →
    bytes ≡ first ++ (10 ∷ rest) → bytes ≡ header ++ (10 ∷ lines) → (first ≡ header)
    × (rest ≡ lines)
behind_header header first rest lines bytes whole whole_too is is_too =
    lines_agree bytes first rest header lines is is_too whole_too whole

-- where a text has its header, its first fault is what stops the reading of its lines
pub record Stopped {A : Type 0} (form : TextForm A) (lines : List ℕ) (line : ℕ)
    (kind : TextKind) : Type 0 where
  pub items : List A
  pub stretch : Stretch form [] lines items (stopped line kind)

stopped_is : (line other : ℕ) (kind kind_too : TextKind) → line ≡ other → kind ≡ kind_too →
    stopped line kind ≡ stopped other kind_too
stopped_is line other kind kind_too same same_kind =
    ap (λ (n : ℕ). stopped n kind) same ∙ ap (stopped other) same_kind

-- the fault of a text that has its header
pub fault_stops : {A : Type 0} (form : TextForm A) → IsSettled form →
    (bytes lines : List ℕ) (line : ℕ) (kind : TextKind) → bytes ≡ form.header ++ (10 ∷ lines) →
    FirstFault form bytes line kind → Stopped form lines line kind
fault_stops form settled bytes lines line kind has (no_line lacks at is) =
    absurd (has_line bytes form.header lines has lacks)
fault_stops form settled bytes lines line kind has (no_header first rest lacks cut apart at is) =
    absurd (apart (behind_header form.header first rest lines bytes settled.whole_header lacks cut
    has).0)
fault_stops form settled bytes lines line kind has
    (wrong_line items wrong rest follow spelled lacks apart bad at) =
    record {
      items = items;
      stretch = record {
        tail = wrong ++ (10 ∷ rest);
        follow = follow;
        spelled = (lines_agree bytes form.header lines form.header
            (lines_then form.spell items (wrong ++ (10 ∷ rest))) has spelled settled.whole_header
            settled.whole_header).1;
        stops = at_wrong wrong rest kind refl lacks apart bad
            (stopped_is line (length items + 2) kind kind at refl);
      };
    }
fault_stops form settled bytes lines line kind has (no_end items rest follow spelled lacks at is) =
    record {
      items = items;
      stretch = record {
        tail = rest;
        follow = follow;
        spelled = (lines_agree bytes form.header lines form.header
            (lines_then form.spell items rest) has spelled settled.whole_header
            settled.whole_header).1;
        stops = at_none lacks (stopped_is line (length items + 2) kind Ending at is);
      };
    }
fault_stops form settled bytes lines line kind has
    (behind_end items rest follow spelled due some at is) =
    record {
      items = items;
      stretch = record {
        tail = end_word ++ (10 ∷ rest);
        follow = follow;
        spelled = (lines_agree bytes form.header lines form.header
            (lines_then form.spell items (end_word ++ (10 ∷ rest))) has spelled settled.whole_header
            settled.whole_header).1;
        stops = at_more rest refl due some (stopped_is line (length items + 3) kind Ending at is);
      };
    }

-- a text's lines are read to their end
text_ends : {A : Type 0} (form : TextForm A) (bytes : List ℕ) (items : List A) →
    IsText form bytes items →
    Stretch form [] (lines_then form.spell items (end_word ++ (10 ∷ []))) items ended
text_ends form bytes items is = record {
  tail = end_word ++ (10 ∷ []);
  follow = is.follow;
  spelled =
      refl;
  stops = at_end refl is.due refl;
}

-- bytes are the text of one list alone
pub text_is_one : {A : Type 0} (form : TextForm A) → IsSettled form → (bytes : List ℕ)
    (items others : List A) → IsText form bytes items → IsText form bytes others → items ≡ others
text_is_one form settled bytes items others is is_too =
    let lines = lines_then form.spell items (end_word ++ (10 ∷ [])) in
    let behind = lines_agree bytes form.header lines form.header
    (lines_then form.spell others (end_word ++ (10 ∷ []))) is.spelled is_too.spelled
    settled.whole_header settled.whole_header in
    let other : Stretch form [] lines others ended =
    record {
      tail = end_word ++ (10 ∷ []);
      follow = is_too.follow;
      spelled = behind.1;
      stops =
          at_end refl is_too.due refl;
    } in
    (stretch_is_one form settled [] items others lines ended ended (text_ends form bytes items is)
    other).0

-- a text has no fault
pub text_has_no_fault : {A : Type 0} (form : TextForm A) → IsSettled form →
    (bytes : List ℕ) (items : List A) (line : ℕ) (kind : TextKind) → IsText form bytes items →
    ¬ FirstFault form bytes line kind
text_has_no_fault form settled bytes items line kind is fault =
    let lines = lines_then form.spell items (end_word ++ (10 ∷ [])) in
    let stops = fault_stops form settled bytes lines line kind is.spelled fault in
    let same = (stretch_is_one form settled [] items stops.items lines ended (stopped line kind)
    (text_ends form bytes items is) stops.stretch).1 in
    Prim.cc

-- two faults that stop at one place are one
stopped_is_one : (line other : ℕ) (kind kind_too : TextKind) →
    stopped line kind ≡ stopped other kind_too → (line ≡ other) × (kind ≡ kind_too)
stopped_is_one line other kind kind_too same = ((Prim.cc), (Prim.cc))

-- two faults of a text that has its header
headed_fault_is_one :
    {A : Type 0} (form : TextForm A) → IsSettled form → (bytes lines : List ℕ) (line other : ℕ)
    (kind kind_too : TextKind) → bytes ≡ form.header ++ (10 ∷ lines)
    → FirstFault form bytes line kind → FirstFault form bytes other kind_too → (line ≡ other)
    × (kind ≡ kind_too)
headed_fault_is_one form settled bytes lines line other kind kind_too has fault fault_too =
    let first = fault_stops form settled bytes lines line kind has fault in
    let second = fault_stops form settled bytes lines other kind_too has fault_too in
    stopped_is_one line other kind kind_too
    (stretch_is_one form settled [] first.items second.items lines (stopped line kind)
    (stopped other kind_too) first.stretch second.stretch).1

-- the faults of bytes without a line
none_is_one : {A : Type 0} (form : TextForm A) (bytes : List ℕ) (line : ℕ) (kind : TextKind) →
    Lacks 10 bytes → FirstFault form bytes line kind → (line ≡ 1) × (kind ≡ Ending)
none_is_one form bytes line kind lacks (no_line lacks_too at is) = (at, is)
none_is_one form bytes line kind lacks (no_header first rest whole cut apart at is) =
    absurd (has_line bytes first rest cut lacks)
none_is_one form bytes line kind lacks
    (wrong_line items wrong rest follow spelled whole not_end bad at) =
    absurd (has_line bytes form.header _ spelled lacks)
none_is_one form bytes line kind lacks (no_end items rest follow spelled whole at is) =
    absurd (has_line bytes form.header _ spelled lacks)
none_is_one form bytes line kind lacks (behind_end items rest follow spelled due some at is) =
    absurd (has_line bytes form.header _ spelled lacks)

-- the faults of bytes whose first line isn't the header
unheaded_is_one : {A : Type 0} (form : TextForm A) → IsSettled form → (bytes first rest : List ℕ)
    (line : ℕ) (kind : TextKind) → Lacks 10 first → bytes ≡ first ++ (10 ∷ rest) →
    first ≢ form.header → FirstFault form bytes line kind → (line ≡ 1) × (kind ≡ Header)
unheaded_is_one form settled bytes first rest line kind lacks cut apart (no_line lacks_too at is) =
    absurd (has_line bytes first rest cut lacks_too)
unheaded_is_one form settled bytes first rest line kind lacks cut apart
    (no_header other behind whole cut_too apart_too at is) = (at, is)
unheaded_is_one form settled bytes first rest line kind lacks cut apart
    (wrong_line items wrong behind follow spelled whole not_end bad at) =
    absurd (apart (behind_header form.header first rest _ bytes settled.whole_header lacks cut
    spelled).0)
unheaded_is_one form settled bytes first rest line kind lacks cut apart
    (no_end items behind follow spelled whole at is) =
    absurd (apart (behind_header form.header first rest _ bytes settled.whole_header lacks cut
    spelled).0)
unheaded_is_one form settled bytes first rest line kind lacks cut apart
    (behind_end items behind follow spelled due some at is) =
    absurd (apart (behind_header form.header first rest _ bytes settled.whole_header lacks cut
    spelled).0)

-- bytes have one first fault
pub fault_is_one : {A : Type 0} (form : TextForm A) → IsSettled form →
    (bytes : List ℕ) (line other : ℕ) (kind kind_too : TextKind) → FirstFault form bytes line kind →
    FirstFault form bytes other kind_too → (line ≡ other) × (kind ≡ kind_too)
fault_is_one form settled bytes line other kind kind_too (no_line lacks at is) too =
    let same = none_is_one form bytes other kind_too lacks too in (at ∙ sym same.0, is ∙ sym same.1)
fault_is_one form settled bytes line other kind kind_too
    (no_header first rest lacks cut apart at is) too =
    let same = unheaded_is_one form settled bytes first rest other kind_too lacks cut apart too in
    (at ∙ sym same.0, is ∙ sym same.1)
fault_is_one form settled bytes line other kind kind_too
    (wrong_line items wrong rest follow spelled lacks apart bad at) too =
    headed_fault_is_one form settled bytes _ line other kind kind_too spelled
    (wrong_line items wrong rest follow spelled lacks apart bad at) too
fault_is_one form settled bytes line other kind kind_too
    (no_end items rest follow spelled lacks at is) too =
    headed_fault_is_one form settled bytes _ line other kind kind_too spelled
    (no_end items rest follow spelled lacks at is) too
fault_is_one form settled bytes line other kind kind_too
    (behind_end items rest follow spelled due some at is) too =
    headed_fault_is_one form settled bytes _ line other kind kind_too spelled
    (behind_end items rest follow spelled due some at is) too

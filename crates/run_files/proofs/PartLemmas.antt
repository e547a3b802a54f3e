-- The files of a session that are told have one reading: settings and lists, or one first bad file.
use Rattle.std.proofs.Common.{◌≡◌, ◌≤◌, ◌⊎◌, inl, inr, ℕ, zero, suc, ◌+◌, List, [], ◌∷◌, ◌++◌, length, Some, refl, sym, ap, ap₂, ◌∙◌, subst, arith}
use Rattle.sl_base.specs.Sounds.{Sound}
use Rattle.sl_commands.specs.declared.StripSettings.{StripSettings}
use Rattle.sl_commands.specs.Settings.{LooperSettings}
use Rattle.sl_commands.specs.TextFaults.{kind_number}
use Rattle.sl_ports.specs.Files.{Files}
use Rattle.text_lines.specs.FirstFaults.{FirstFault}
use Rattle.text_lines.proofs.ReadingLemmas.{fault_is_one, text_has_no_fault}
use Rattle.wav_pcm.specs.Faults.{fault_number}
use Rattle.wav_pcm.specs.Reading.{Spelling}
use Rattle.wav_pcm.specs.Files.{IsWav}
use Rattle.wav_pcm.proofs.FormLemmas.{fault_is_no_wav}
use Rattle.wav_pcm.proofs.TextLemmas.{one_wav}
use Rattle.session_file.specs.Parts.{part_name}
use Rattle.session_file.specs.SessionLines.{lines_of}
use Rattle.session_file.specs.Sessions.{IsSession, session_form}
use Rattle.session_file.specs.Loading.{IsPartSpelled, IsPartOf, IsNoPart, no_wav, other_wav, HoldsPart, LacksPart, missing, bad, IsPart, AreParts, IsLoaded, FirstBadPart, FirstBadFile, no_text, bad_text, bad_part}
use Rattle.session_file.proofs.SessionLemmas.{session_is_text, session_is_one}
use Rattle.session_file.proofs.WrongLemmas.{sessions_are_settled}
use Rattle.run_files.proofs.FileLemmas.{same_bytes, there_or_not, same_fault}

-- bytes are a loop's file or not, for one reason
part_or_none : (bytes : List ℕ) (len kind : ℕ) (list : List Sound) → IsPartOf bytes len list →
    IsNoPart bytes len kind → ⊥
part_or_none bytes len kind list part (no_wav fault is kind_is) =
    fault_is_no_wav bytes fault is part.spelling list part.wav
part_or_none bytes len kind list part (other_wav spelling frames wav other kind_is) =
    let same = one_wav bytes part.spelling spelling list frames part.wav wav in
    other
    (subst (λ (y : Spelling × List Sound). IsPartSpelled y.0 y.1 len)
    (λ i. (same.0 i, same.1 i)) part.spelled)

one_reason : (bytes : List ℕ) (len kind other : ℕ) → IsNoPart bytes len kind →
    IsNoPart bytes len other → kind ≡ other
one_reason bytes len kind other (no_wav fault is kind_is) (no_wav fault_too is_too other_is) =
    kind_is ∙ ap fault_number (same_fault bytes fault fault_too is is_too) ∙ sym other_is
one_reason bytes len kind other (no_wav fault is kind_is)
    (other_wav spelling frames wav not_so other_is) =
    absurd (fault_is_no_wav bytes fault is spelling frames wav)
one_reason bytes len kind other (other_wav spelling frames wav not_so kind_is)
    (no_wav fault is other_is) = absurd (fault_is_no_wav bytes fault is spelling frames wav)
one_reason bytes len kind other (other_wav spelling frames wav not_so kind_is)
    (other_wav spelling_too frames_too wav_too not_so_too other_is) = kind_is ∙ sym other_is

-- so are files
holds_or_lacks : (files : Files) (name : List ℕ) (len kind : ℕ) (list : List Sound) →
    HoldsPart (Some files) name len list → LacksPart (Some files) name len kind → ⊥
holds_or_lacks files name len kind list holds (missing absent kind_is) =
    there_or_not files name holds.bytes holds.there absent
holds_or_lacks files name len kind list holds (bad bytes there none) =
    let same = same_bytes files name holds.bytes bytes holds.there there in
    part_or_none bytes len kind list (subst (λ (b : List ℕ). IsPartOf b len list) same holds.part)
    none

one_lack : (files : Files) (name : List ℕ) (len kind other : ℕ) →
    LacksPart (Some files) name len kind → LacksPart (Some files) name len other → kind ≡ other
one_lack files name len kind other (missing absent kind_is) (missing absent_too other_is) = kind_is
    ∙ sym other_is
one_lack files name len kind other (missing absent kind_is) (bad bytes there none) =
    absurd (there_or_not files name bytes there absent)
one_lack files name len kind other (bad bytes there none) (missing absent other_is) =
    absurd (there_or_not files name bytes there absent)
one_lack files name len kind other (bad bytes there none) (bad bytes_too there_too none_too) =
    let same = same_bytes files name bytes bytes_too there there_too in
    one_reason bytes_too len kind other (subst (λ (b : List ℕ). IsNoPart b len kind) same none)
    none_too

-- a loop that isn't empty has its file or not
part_or_lack :
    (files : Files) (name : List ℕ) (len kind : ℕ) (list : List Sound) → 1 ≤ len →
    IsPart (Some files) name len list → LacksPart (Some files) name len kind → ⊥
part_or_lack files name zero kind list some part lack = absurd (omega (arith, some))
part_or_lack files name (suc n) kind list some part lack =
    holds_or_lacks files name (suc n) kind list part lack

-- a loop has one list
one_part : (files : Files) (name : List ℕ) (len : ℕ) (list other : List Sound) →
    IsPart (Some files) name len list → IsPart (Some files) name len other → list ≡ other
one_part files name zero list other first second = first ∙ sym second
one_part files name (suc n) list other first second =
    let same = same_bytes files name first.bytes second.bytes first.there second.there in
    (one_wav second.bytes first.part.spelling second.part.spelling list other
    (subst (λ (b : List ℕ). IsWav b first.part.spelling list) same first.part.wav)
    second.part.wav).1

-- all loops have one list each
one_lists :
    (files : Files) (session : List ℕ) (index : ℕ) (ss : List StripSettings)
    (lists others : List (List Sound))
    → AreParts (Some files) session index ss lists → AreParts (Some files) session index ss others →
    lists ≡ others
one_lists files session index [] [] [] first second = refl
one_lists files session index [] [] (m ∷ ms) first second = absurd second
one_lists files session index [] (l ∷ ls) others first second = absurd first
one_lists files session index (s ∷ ss) [] others first second = absurd first
one_lists files session index (s ∷ ss) (l ∷ ls) [] first second = absurd second
one_lists files session index (s ∷ ss) (l ∷ ls) (m ∷ ms) first second =
    ap₂ (λ (x : List Sound) (xs : List (List Sound)). x ∷ xs)
    (one_part files (part_name session index) s.length l m first.0 second.0)
    (one_lists files session (index + 1) ss ls ms first.1 second.1)

-- the first bad file of the loops from an index on, loop by loop
abbrev BadFrom : Files → List ℕ → ℕ → List StripSettings → List ℕ → ℕ → Type 0
BadFrom files session index [] name kind = ⊥
BadFrom files session index (s ∷ ss) name kind =
    ((1 ≤ s.length) × (name ≡ part_name session index) ×
    LacksPart (Some files) (part_name session index) s.length kind)
    ⊎ ((list : List Sound) × IsPart (Some files) (part_name session index) s.length list ×
    BadFrom files session (index + 1) ss name kind)

bad_behind :
    (files : Files) (session : List ℕ) (index : ℕ) (good : List StripSettings)
    (strip : StripSettings) (rest : List StripSettings) (lists : List (List Sound))
    (name : List ℕ) (kind : ℕ)
    → AreParts (Some files) session index good lists → 1 ≤ strip.length →
    name ≡ part_name session (index + length good)
    → LacksPart (Some files) name strip.length kind →
    BadFrom files session index (good ++ strip ∷ rest) name kind
bad_behind files session index [] strip rest lists name kind are some name_is lacks =
    let here : index + 0 ≡ index = omega arith in
    let at : name ≡ part_name session index = name_is ∙ ap (part_name session) here in
    inl (some, at, subst (λ (m : List ℕ). LacksPart (Some files) m strip.length kind) at lacks)
bad_behind files session index (g ∷ gs) strip rest [] name kind are some name_is lacks = absurd are
bad_behind files session index (g ∷ gs) strip rest (l ∷ ls) name kind are some name_is lacks =
    let on : index + suc (length gs) ≡ index + 1 + length gs = omega arith in
    inr (
      l,
      are.0,
      bad_behind files session (index + 1) gs strip rest ls name kind are.1 some
          (name_is ∙ ap (part_name session) on) lacks,
    )

first_is_bad :
    (files : Files) (session : List ℕ) (strips : List StripSettings) (name : List ℕ) (kind : ℕ) →
    FirstBadPart (Some files) session strips name kind
    → BadFrom files session 0 strips name kind
first_is_bad files session strips name kind b =
    let from : length b.good ≡ 0 + length b.good = omega arith in
    subst (λ (ss : List StripSettings). BadFrom files session 0 ss name kind) (sym b.parted)
    (bad_behind files session 0 b.good b.strip b.rest b.lists name kind b.parts b.some
    (b.name_is ∙ ap (part_name session) from) b.lacks)

one_bad :
    (files : Files) (session : List ℕ) (index : ℕ) (ss : List StripSettings) (name other : List ℕ)
    (kind kind_too : ℕ) → BadFrom files session index ss name kind
    → BadFrom files session index ss other kind_too → (name ≡ other) × (kind ≡ kind_too)
one_bad files session index [] name other kind kind_too first second = absurd first
one_bad files session index (s ∷ ss) name other kind kind_too (inl first) (inl second) = (
  first.1
      ∙ sym second.1,
  one_lack files (part_name session index) s.length kind kind_too first.2 second.2,
)
one_bad files session index (s ∷ ss) name other kind kind_too (inl first) (inr second) =
    absurd
    (part_or_lack files (part_name session index) s.length kind second.0 first.0 second.1
    first.2)
one_bad files session index (s ∷ ss) name other kind kind_too (inr first) (inl second) =
    absurd
    (part_or_lack files (part_name session index) s.length kind_too first.0 second.0 first.1
    second.2)
one_bad files session index (s ∷ ss) name other kind kind_too (inr first) (inr second) =
    one_bad files session (index + 1) ss name other kind kind_too first.2 second.2

good_or_bad :
    (files : Files) (session : List ℕ) (index : ℕ) (ss : List StripSettings)
    (lists : List (List Sound)) (name : List ℕ) (kind : ℕ)
    → AreParts (Some files) session index ss lists → BadFrom files session index ss name kind → ⊥
good_or_bad files session index [] lists name kind are first = absurd first
good_or_bad files session index (s ∷ ss) [] name kind are first = absurd are
good_or_bad files session index (s ∷ ss) (l ∷ ls) name kind are (inl first) =
    part_or_lack files (part_name session index) s.length kind l first.0 are.0 first.2
good_or_bad files session index (s ∷ ss) (l ∷ ls) name kind are (inr first) =
    good_or_bad files session (index + 1) ss ls name kind are.1 first.2

-- the settings of two readings of one file
one_text :
    (files : Files) (session bytes others : List ℕ) (s t : LooperSettings) →
    files session ≡ Some bytes → files session ≡ Some others → IsSession bytes s
    → IsSession others t → s ≡ t
one_text files session bytes others s t there there_too first second =
    let same = same_bytes files session bytes others there there_too in
    sym (session_is_one others s t (subst (λ (b : List ℕ). IsSession b s) same first) second)

text_or_fault :
    (files : Files) (session bytes others : List ℕ) (s : LooperSettings) (line : ℕ) (kind : _) →
    files session ≡ Some bytes → files session ≡ Some others → IsSession bytes s
    → FirstFault session_form others line kind → ⊥
text_or_fault files session bytes others s line kind there there_too is first =
    let same = same_bytes files session bytes others there there_too in
    text_has_no_fault session_form sessions_are_settled others (lines_of s) line kind
    (session_is_text others s (subst (λ (b : List ℕ). IsSession b s) same is)) first

-- a session has one reading
pub one_session :
    (files : Files) (session : List ℕ) (s t : LooperSettings) (lists others : List (List Sound)) →
    IsLoaded (Some files) session s lists
    → IsLoaded (Some files) session t others → (s ≡ t) × (lists ≡ others)
one_session files session s t lists others first second =
    let same =
    one_text files session first.bytes second.bytes s t first.there second.there first.text
    second.text in (
      same,
      one_lists files session 0 t.strips lists others
          (subst (λ (u : LooperSettings). AreParts (Some files) session 0 u.strips lists) same
          first.parts) second.parts,
    )

-- it is loaded or has a first bad file
pub loaded_or_bad :
    (files : Files) (session : List ℕ) (s : LooperSettings) (lists : List (List Sound))
    (name : List ℕ) (kind line : ℕ) → IsLoaded (Some files) session s lists
    → FirstBadFile (Some files) session name kind line → ⊥
loaded_or_bad files session s lists name kind line loaded (no_text name_is absent kind_is line_is) =
    there_or_not files session loaded.bytes loaded.there absent
loaded_or_bad files session s lists name kind line loaded
    (bad_text name_is bytes there text_kind first kind_is) =
    text_or_fault files session loaded.bytes bytes s line text_kind loaded.there there loaded.text
    first
loaded_or_bad files session s lists name kind line loaded
    (bad_part bytes there settings is first line_is) =
    let same =
    one_text files session loaded.bytes bytes s settings loaded.there there loaded.text is in
    good_or_bad files session 0 settings.strips lists name kind
    (subst (λ (u : LooperSettings). AreParts (Some files) session 0 u.strips lists) same
    loaded.parts)
    (first_is_bad files session settings.strips name kind first)

-- the first bad file is one
pub one_bad_file :
    (files : Files) (session name other : List ℕ) (kind line kind_too line_too : ℕ) →
    FirstBadFile (Some files) session name kind line
    → FirstBadFile (Some files) session other kind_too line_too →
    (name ≡ other) × (kind ≡ kind_too) × (line ≡ line_too)
one_bad_file files session name other kind line kind_too line_too
    (no_text name_is absent kind_is line_is) (no_text other_is absent_too kind_is_too line_is_too) =
    (name_is ∙ sym other_is, kind_is ∙ sym kind_is_too, line_is ∙ sym line_is_too)
one_bad_file files session name other kind line kind_too line_too
    (no_text name_is absent kind_is line_is)
    (bad_text other_is bytes there text_kind first kind_is_too) =
    absurd (there_or_not files session bytes there absent)
one_bad_file files session name other kind line kind_too line_too
    (no_text name_is absent kind_is line_is) (bad_part bytes there settings is first line_is_too) =
    absurd (there_or_not files session bytes there absent)
one_bad_file files session name other kind line kind_too line_too
    (bad_text name_is bytes there text_kind first kind_is)
    (no_text other_is absent kind_is_too line_is_too) =
    absurd (there_or_not files session bytes there absent)
one_bad_file files session name other kind line kind_too line_too
    (bad_part bytes there settings is first line_is)
    (no_text other_is absent kind_is_too line_is_too) =
    absurd (there_or_not files session bytes there absent)
one_bad_file files session name other kind line kind_too line_too
    (bad_text name_is bytes there text_kind first kind_is)
    (bad_text other_is bytes_too there_too text_kind_too first_too kind_is_too) =
    let same = same_bytes files session bytes bytes_too there there_too in
    let one =
    fault_is_one session_form sessions_are_settled bytes_too line line_too text_kind text_kind_too
    (subst (λ (b : List ℕ). FirstFault session_form b line text_kind) same first) first_too in
    (name_is ∙ sym other_is, kind_is ∙ ap kind_number one.1 ∙ sym kind_is_too, one.0)
one_bad_file files session name other kind line kind_too line_too
    (bad_text name_is bytes there text_kind first kind_is)
    (bad_part bytes_too there_too settings is first_too line_is) =
    absurd
    (text_or_fault files session bytes_too bytes settings line text_kind there_too there is
    first)
one_bad_file files session name other kind line kind_too line_too
    (bad_part bytes there settings is first line_is)
    (bad_text other_is bytes_too there_too text_kind first_too kind_is) =
    absurd
    (text_or_fault files session bytes bytes_too settings line_too text_kind there there_too is
    first_too)
one_bad_file files session name other kind line kind_too line_too
    (bad_part bytes there settings is first line_is)
    (bad_part bytes_too there_too settings_too is_too first_too line_is_too) =
    let same =
    one_text files session bytes bytes_too settings settings_too there there_too is is_too in
    let one =
    one_bad files session 0 settings_too.strips name other kind kind_too
    (subst (λ (u : LooperSettings). BadFrom files session 0 u.strips name kind) same
    (first_is_bad files session settings.strips name kind first))
    (first_is_bad files session settings_too.strips other kind_too first_too) in
    (one.0, one.1, line_is ∙ sym line_is_too)

-- Return addresses that are read are spelled so, and what is spelled so is read.
use Rattle.std.proofs.Common.{◌≡◌, ◌≢◌, ◌⊎◌, ℕ, ◌≤◌, ◌<◌, ◌^◌, true, false, cond, eqb, List, [], ◌∷◌, ◌++◌, length, take, drop, Option, Some, None, refl, sym, ap, subst, ◌∙◌, arith, IfSome, inl, inr, bytes_eq}
use Rattle.std.specs.Prelude.{codes}
use Rattle.std.specs.Fmt.{decimal}
use Rattle.std.proofs.Common.{lit<}
use Rattle.std.proofs.lemmas.Bool.Decides.{nat_tests}
use Rattle.std.proofs.lemmas.List.{take-append-drop, append-nil, length-append}
use Rattle.std.proofs.lemmas.List.Folds.{list_all-append}
use Rattle.std.proofs.lemmas.Slice.Eq.{bytes_eq-Decides}
use Rattle.sl_base.specs.declared.addr.Addr.{Addr}
use Rattle.osc_paths.specs.Texts.{cut_at, number_up_to, ◌>>=◌}
use Rattle.osc_paths.specs.Urls.{loopback, ip_of, IsDotted, IsHost, scheme, IsSpelledOut, IsUrl, without_scheme, dotted_in, host_in, without_slash, port_in, address_in, url_in}
use Rattle.osc_paths.proofs.TextLemmas.{some_is, bind_some, number_takes, number_again, is_other, lacks, cut_found, cut_there, cut_nowhere, decimal_lacks, some_digit}

-- four numbers
dotted_takes : (host : List ℕ) (ip : ℕ) → dotted_in host ≡ Some ip → IsDotted host ip
unfolding dotted_in
dotted_takes host ip same =
    let p = bind_some (cut_at 46 host)
    (λ first. cut_at 46 first.1 >>= λ second. cut_at 46 second.1 >>= λ third.
    number_up_to 255 first.0 >>= λ a. number_up_to 255 second.0 >>= λ b. number_up_to 255
    third.0 >>= λ c. number_up_to 255 third.1 >>= λ d. Some (ip_of a b c d)) ip same in
    let q = bind_some (cut_at 46 p.0.1)
    (λ second. cut_at 46 second.1 >>= λ third. number_up_to 255 p.0.0 >>= λ a.
    number_up_to 255 second.0 >>= λ b. number_up_to 255 third.0 >>= λ c.
    number_up_to 255 third.1 >>= λ d. Some (ip_of a b c d)) ip p.2 in
    let r = bind_some (cut_at 46 q.0.1)
    (λ third. number_up_to 255 p.0.0 >>= λ a. number_up_to 255 q.0.0 >>= λ b. number_up_to 255
    third.0 >>= λ c. number_up_to 255 third.1 >>= λ d. Some (ip_of a b c d)) ip q.2 in
    let a = bind_some (number_up_to 255 p.0.0)
    (λ a. number_up_to 255 q.0.0 >>= λ b. number_up_to 255 r.0.0 >>= λ c.
    number_up_to 255 r.0.1 >>= λ d. Some (ip_of a b c d)) ip r.2 in
    let b = bind_some (number_up_to 255 q.0.0) (λ b. number_up_to 255 r.0.0 >>= λ c.
    number_up_to 255 r.0.1 >>= λ d. Some (ip_of a.0 b c d)) ip a.2 in
    let c = bind_some (number_up_to 255 r.0.0)
    (λ c. number_up_to 255 r.0.1 >>= λ d. Some (ip_of a.0 b.0 c d)) ip b.2 in
    let d = bind_some (number_up_to 255 r.0.1) (λ d. Some (ip_of a.0 b.0 c.0 d)) ip c.2 in
    let na = number_takes 255 p.0.0 a.0 a.1 in
    let nb = number_takes 255 q.0.0 b.0 b.1 in
    let nc = number_takes 255 r.0.0 c.0 c.1 in
    let nd = number_takes 255 r.0.1 d.0 d.1 in
    let third : q.0.1 ≡ decimal c.0 ++ (46 ∷ decimal d.0) =
    rw (← nc.0, ← nd.0) ((cut_found 46 q.0.1 r.0 r.1).1) in
    let second : p.0.1 ≡ decimal b.0 ++ (46 ∷ (decimal c.0 ++ (46 ∷ decimal d.0))) =
    rw (← nb.0, ← third) ((cut_found 46 p.0.1 q.0 q.1).1) in
    record {
      a = a.0;
      b = b.0;
      c = c.0;
      d = d.0;
      within = (na.1, nb.1, nc.1, nd.1);
      value = sym (some_is (ip_of a.0 b.0 c.0 d.0) ip d.2);
      spelled = rw (← na.0, ← second) ((cut_found 46 host p.0 p.1).1);
    }

below : (number most : ℕ) → number ≤ most → most < 10 ^ 19 → number < 10 ^ 19
below number most low small = omega arith

octet_again : (number : ℕ) → number ≤ 255 → number_up_to 255 (decimal number) ≡ Some number
octet_again number low = number_again 255 number low (below number 255 low (lit< tt))

octet_lacks : (byte number : ℕ) → (byte < 48) ⊎ (57 < byte) → number ≤ 255 →
    lacks byte (decimal number) ≡ true
octet_lacks byte number apart low = decimal_lacks byte number apart (below number 255 low (lit< tt))

dotted_again : (host : List ℕ) (ip : ℕ) → IsDotted host ip → dotted_in host ≡ Some ip
unfolding dotted_in
dotted_again host ip is =
    let dot : (46 < 48) ⊎ (57 < 46) = inl (lit< tt) in
    let third : List ℕ = decimal is.c ++ (46 ∷ decimal is.d) in
    let second : List ℕ = decimal is.b ++ (46 ∷ third) in
    ap dotted_in is.spelled
    ∙ rw (
      cut_there 46 (decimal is.a) second (octet_lacks 46 is.a dot is.within.0),
      cut_there 46 (decimal is.b) third (octet_lacks 46 is.b dot is.within.1),
      cut_there 46 (decimal is.c) (decimal is.d) (octet_lacks 46 is.c dot is.within.2),
      octet_again is.a is.within.0,
      octet_again is.b is.within.1,
      octet_again is.c is.within.2,
      octet_again is.d is.within.3,
      is.value,
    ) refl

-- hosts
pub host_takes : (host : List ℕ) (ip : ℕ) → host_in host ≡ Some ip → IsHost host ip
host_takes host ip same =
    elim (bytes_eq host (codes "localhost")) as (λ b. bytes_eq host (codes "localhost") ≡ b →
    cond b (Some loopback) (dotted_in host) ≡ Some ip → IsHost host ip) [
      | true ↦ λ local read.
          inl ((bytes_eq-Decides host (codes "localhost")).0 local, sym (some_is loopback ip read))
      | false ↦ λ other read. inr (dotted_takes host ip read)
    ] refl same

-- a dotted host doesn't begin with a letter
dotted_is_no_name : (host : List ℕ) (ip : ℕ) → IsDotted host ip →
    bytes_eq host (codes "localhost") ≡ false
dotted_is_no_name host ip is =
    let digit = some_digit is.a (below is.a 255 is.within.0 (lit< tt)) in
    let begins : host ≡ digit.0
    ∷ (digit.1 ++ (46 ∷ (decimal is.b ++ (46 ∷ (decimal is.c ++ (46 ∷ decimal is.d)))))) =
    is.spelled ∙ ap (λ (front : List ℕ). front
    ++ (46 ∷ (decimal is.b ++ (46 ∷ (decimal is.c ++ (46 ∷ decimal is.d)))))) digit.2 in
    let other : eqb digit.0 108 ≡ false = grind (arith, nat_tests) in
    rw (begins, other) refl

pub host_again : (host : List ℕ) (ip : ℕ) → IsHost host ip → host_in host ≡ Some ip
host_again host ip (inl is) = rw (is.0, is.1) refl
host_again host ip (inr is) = rw (dotted_is_no_name host ip is) (dotted_again host ip is)

pub host_lacks : (host : List ℕ) (ip : ℕ) → IsHost host ip → lacks 58 host ≡ true
host_lacks host ip (inl is) = rw (is.0) refl
host_lacks host ip (inr is) =
    let colon : (58 < 48) ⊎ (57 < 58) = inr (lit< tt) in
    rw (
      is.spelled,
      list_all-append (is_other 58) (decimal is.a)
          (46 ∷ (decimal is.b ++ (46 ∷ (decimal is.c ++ (46 ∷ decimal is.d))))),
      octet_lacks 58 is.a colon is.within.0,
      list_all-append (is_other 58) (decimal is.b) (46 ∷ (decimal is.c ++ (46 ∷ decimal is.d))),
      octet_lacks 58 is.b colon is.within.1,
      list_all-append (is_other 58) (decimal is.c) (46 ∷ decimal is.d),
      octet_lacks 58 is.c colon is.within.2,
      octet_lacks 58 is.d colon is.within.3,
    ) refl

-- ports
record TakesPort (bytes : List ℕ) (port : ℕ) : Type 0 where
  ends : List ℕ
  within : (1 ≤ port) × (port ≤ 65535)
  ending : (ends ≡ []) ⊎ (ends ≡ 47 ∷ [])
  spelled : bytes ≡ decimal port ++ ends

port_text : (bytes : List ℕ) (cut : Option (List ℕ × List ℕ)) → cut_at 47 bytes ≡ cut →
    (ends : List ℕ) × ((ends ≡ []) ⊎ (ends ≡ 47 ∷ [])) × (bytes ≡ without_slash bytes cut ++ ends)
port_text bytes None is = ([], inl refl, sym (append-nil bytes))
port_text bytes (Some (front, [])) is = (47 ∷ [], inr refl, (cut_found 47 bytes (front, []) is).1)
port_text bytes (Some (front, more ∷ rest)) is = ([], inl refl, sym (append-nil bytes))

some_port : (number port : ℕ) → cond (eqb number 0) None (Some number) ≡ Some port → (1 ≤ port)
    × (number ≡ port)
some_port number port same =
    elim (eqb number 0) as (λ b. eqb number 0 ≡ b → cond b None (Some number) ≡ Some port →
    (1 ≤ port) × (number ≡ port)) [
      | true ↦ λ none read. absurd cc
      | false ↦ λ some read. let is : number ≡ port = some_is number port read in
          (grind (arith, nat_tests), is)
    ] refl same

port_takes : (bytes : List ℕ) (port : ℕ) → port_in bytes ≡ Some port → TakesPort bytes port
port_takes bytes port same =
    let text : List ℕ = without_slash bytes (cut_at 47 bytes) in
    let number = bind_some (number_up_to 65535 text) (λ n. cond (eqb n 0) None (Some n)) port
    same in
    let some = some_port number.0 port number.2 in
    let read = number_takes 65535 text number.0 number.1 in
    let ended = port_text bytes (cut_at 47 bytes) refl in
    record {
      ends = ended.0;
      within = (some.0, subst (λ (n : ℕ). n ≤ 65535) some.1 read.1);
      ending = ended.1;
      spelled = ended.2 ∙ ap (λ (front : List ℕ). front ++ ended.0) (read.0 ∙ ap decimal some.1);
    }

port_number : (port : ℕ) → 1 ≤ port → port ≤ 65535 →
    (number_up_to 65535 (decimal port) >>= λ n. cond (eqb n 0) None (Some n)) ≡ Some port
port_number port least greatest =
    let other : eqb port 0 ≡ false = grind (arith, nat_tests) in
    rw (number_again 65535 port greatest (below port 65535 greatest (lit< tt)), other) refl

port_again : (port : ℕ) (ends : List ℕ) → 1 ≤ port → port ≤ 65535 → (ends ≡ []) ⊎ (ends ≡ 47 ∷ []) →
    port_in (decimal port ++ ends) ≡ Some port
port_again port ends least greatest (inl none) =
    let slash : (47 < 48) ⊎ (57 < 47) = inl (lit< tt) in
    let plain : decimal port ++ ends ≡ decimal port = ap (λ (e : List ℕ). decimal port ++ e) none
    ∙ append-nil (decimal port) in
    let uncut : cut_at 47 (decimal port) ≡ None = cut_nowhere 47 (decimal port)
    (decimal_lacks 47 port slash (below port 65535 greatest (lit< tt))) in
    ap port_in plain ∙ rw uncut (port_number port least greatest)
port_again port ends least greatest (inr one) =
    let slash : (47 < 48) ⊎ (57 < 47) = inl (lit< tt) in
    let cut : cut_at 47 (decimal port ++ (47 ∷ [])) ≡ Some (decimal port, []) =
    cut_there 47 (decimal port) []
    (decimal_lacks 47 port slash (below port 65535 greatest (lit< tt))) in
    ap (λ (e : List ℕ). port_in (decimal port ++ e)) one ∙ rw cut (port_number port least greatest)

-- schemes
scheme_taken : (bytes : List ℕ) → (begins : List ℕ) × ((begins ≡ []) ⊎ (begins ≡ scheme))
    × (bytes ≡ begins ++ without_scheme bytes)
scheme_taken bytes =
    elim (bytes_eq scheme (take 10 bytes)) as (λ b. bytes_eq scheme (take 10 bytes) ≡ b →
    (begins : List ℕ) × ((begins ≡ []) ⊎ (begins ≡ scheme))
    × (bytes ≡ begins ++ cond b (drop 10 bytes) bytes)) [
      | true ↦ λ there. (
        scheme,
        inr refl,
        sym (take-append-drop 10 bytes)
            ∙ ap (λ (front : List ℕ). front ++ drop 10 bytes)
            (sym ((bytes_eq-Decides scheme (take 10 bytes)).0 there)),
      )
      | false ↦ λ missing. ([], inl refl, refl)
    ] refl

host_is_no_scheme : (host : List ℕ) (ip : ℕ) (rest : List ℕ) → IsHost host ip →
    bytes_eq scheme (take 10 (host ++ rest)) ≡ false
host_is_no_scheme host ip rest (inl is) = rw (is.0) refl
host_is_no_scheme host ip rest (inr is) =
    let digit = some_digit is.a (below is.a 255 is.within.0 (lit< tt)) in
    let behind : List ℕ = 46 ∷ (decimal is.b ++ (46 ∷ (decimal is.c ++ (46 ∷ decimal is.d)))) in
    let begins : host ≡ digit.0 ∷ (digit.1 ++ behind) =
    is.spelled ∙ ap (λ (front : List ℕ). front ++ behind) digit.2 in
    let other : eqb 111 digit.0 ≡ false = grind (arith, nat_tests) in
    rw (begins, other) refl

scheme_passed : (begins host : List ℕ) (ip : ℕ) (rest : List ℕ) → (begins ≡ [])
    ⊎ (begins ≡ scheme) → IsHost host ip → without_scheme (begins ++ (host ++ rest)) ≡ host ++ rest
scheme_passed begins host ip rest (inl none) is = rw (none, host_is_no_scheme host ip rest is) refl
scheme_passed begins host ip rest (inr there) is =
    ap (λ (b : List ℕ). without_scheme (b ++ (host ++ rest))) there

-- addresses
address_takes : (bytes : List ℕ) (addr : Addr) → address_in bytes ≡ Some addr →
    IsSpelledOut bytes addr
unfolding address_in
address_takes bytes addr same =
    let w : List ℕ = without_scheme bytes in
    let cut = bind_some (cut_at 58 w) (λ parts. host_in parts.0 >>= λ ip.
    port_in parts.1 >>= λ port. Some (record { ip = ip; port = port })) addr same in
    let ip = bind_some (host_in cut.0.0)
    (λ ip. port_in cut.0.1 >>= λ port. Some (record { ip = ip; port = port })) addr cut.2 in
    let port = bind_some (port_in cut.0.1) (λ port. Some (record { ip = ip.0; port = port })) addr
    ip.2 in
    let schemed = scheme_taken bytes in
    let parts : w ≡ cut.0.0 ++ (58 ∷ cut.0.1) = (cut_found 58 w cut.0 cut.1).1 in
    let ported = port_takes cut.0.1 port.0 port.1 in
    let hosted = host_takes cut.0.0 ip.0 ip.1 in
    let whole : bytes ≡ schemed.0 ++ (cut.0.0 ++ (58 ∷ (decimal port.0 ++ ported.ends))) =
    schemed.2 ∙ ap (λ (b : List ℕ). schemed.0 ++ b)
    (parts ∙ ap (λ (b : List ℕ). cut.0.0 ++ (58 ∷ b)) ported.spelled) in
    let made : Addr = record { ip = ip.0; port = port.0 } in
    subst (λ (a : Addr). IsSpelledOut bytes a) (some_is made addr port.2)
    (record {
      begins = schemed.0;
      host = cut.0.0;
      ends = ported.ends;
      beginning =
          schemed.1;
      hosted = hosted;
      port = ported.within;
      ending = ported.ending;
      spelled = whole;
    })

address_again : (bytes : List ℕ) (addr : Addr) → IsSpelledOut bytes addr →
    address_in bytes ≡ Some addr
unfolding address_in
address_again bytes addr is =
    let rest : List ℕ = 58 ∷ (decimal addr.port ++ is.ends) in
    let passed : without_scheme (is.begins ++ (is.host ++ rest)) ≡ is.host ++ rest =
    scheme_passed is.begins is.host addr.ip rest is.beginning is.hosted in
    let cut : cut_at 58 (is.host ++ rest) ≡ Some (is.host, decimal addr.port ++ is.ends) =
    cut_there 58 is.host (decimal addr.port ++ is.ends)
    (host_lacks is.host addr.ip is.hosted) in
    let port : port_in (decimal addr.port ++ is.ends) ≡ Some addr.port =
    port_again addr.port is.ends is.port.0 is.port.1 is.ending in
    ap address_in is.spelled ∙ rw (passed, cut, host_again is.host addr.ip is.hosted, port) refl

-- urls
pub url_takes : (from : Addr) (bytes : List ℕ) (addr : Addr) → url_in from bytes ≡ Some addr →
    IsUrl from bytes addr
unfolding url_in
url_takes from [] addr same = inl (refl, sym (some_is from addr same))
url_takes from (byte ∷ bytes) addr same = inr (address_takes (byte ∷ bytes) addr same)

url_in-some : (from : Addr) (bytes : List ℕ) → bytes ≢ [] → url_in from bytes ≡ address_in bytes
unfolding url_in
url_in-some from [] some = absurd (some refl)
url_in-some from (byte ∷ bytes) some = refl

-- no bytes spell no address
spelled_is_some : (addr : Addr) → IsSpelledOut [] addr → ⊥
spelled_is_some addr is =
    let size = ap length is.spelled in
    omega (
      arith,
      size,
      length-append is.begins (is.host ++ (58 ∷ (decimal addr.port ++ is.ends))),
      length-append is.host (58 ∷ (decimal addr.port ++ is.ends)),
    )

pub url_again : (from : Addr) (bytes : List ℕ) (addr : Addr) → IsUrl from bytes addr →
    url_in from bytes ≡ Some addr
unfolding url_in
url_again from bytes addr (inl is) = rw (is.0, is.1) refl
url_again from [] addr (inr is) = absurd (spelled_is_some addr is)
url_again from (byte ∷ bytes) addr (inr is) = address_again (byte ∷ bytes) addr is

pub url_found : (from : Addr) (bytes : List ℕ) (read : Option Addr) → read ≡ url_in from bytes →
    IfSome read (IsUrl from bytes)
url_found from bytes (Some addr) same = url_takes from bytes addr (sym same)
url_found from bytes None same = tt

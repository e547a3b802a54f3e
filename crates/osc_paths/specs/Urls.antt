-- A return address is empty, and is then where the packet came from; or it is `osc.udp://`, which
-- may be missing, a host, `:`, a port from 1 to 65535, and `/`, which may be missing. A host is
-- `localhost`, which is 127.0.0.1, or four numbers from 0 to 255 with dots between them.
-- "OSC paths" in docs/formats.md.
use Rattle.std.specs.Prelude.{◌≡◌, ◌≤◌, ◌⊎◌, ℕ, ◌+◌, ◌*◌, ◌==◌, if◌then◌else◌, List, [], ◌∷◌, ◌++◌, take, drop, Option, Some, None, codes}
use Rattle.std.specs.Str.{bytes_eq}
use Rattle.std.specs.Fmt.{decimal}
use Rattle.sl_base.specs.declared.addr.Addr.{Addr}
use Rattle.osc_paths.specs.Texts.{cut_at, number_up_to, ◌>>=◌}

-- the number of the address 127.0.0.1
abbrev pub loopback : ℕ
loopback = 2130706433

-- an address by its four numbers, the first the highest
abbrev pub ip_of : ℕ → ℕ → ℕ → ℕ → ℕ
ip_of a b c d = ((a * 256 + b) * 256 + c) * 256 + d

-- four numbers with dots between them
pub record IsDotted (host : List ℕ) (ip : ℕ) : Type 0 where
  pub a : ℕ
  pub b : ℕ
  pub c : ℕ
  pub d : ℕ
  pub within : (a ≤ 255) × (b ≤ 255) × (c ≤ 255) × (d ≤ 255)
  pub value : ip ≡ ip_of a b c d
  pub spelled : host ≡ decimal a ++ (46 ∷ (decimal b ++ (46 ∷ (decimal c ++ (46 ∷ decimal d)))))

-- the host that the bytes name
abbrev pub IsHost : List ℕ → ℕ → Type 0
IsHost host ip = ((host ≡ codes "localhost") × (ip ≡ loopback)) ⊎ IsDotted host ip

-- what may stand before a host
abbrev pub scheme : List ℕ
scheme = codes "osc.udp://"

-- the bytes spell this address
pub record IsSpelledOut (bytes : List ℕ) (addr : Addr) : Type 0 where
  pub begins : List ℕ
  pub host : List ℕ
  pub ends : List ℕ
  pub beginning : (begins ≡ []) ⊎ (begins ≡ scheme)
  pub hosted : IsHost host addr.ip
  pub port : (1 ≤ addr.port) × (addr.port ≤ 65535)
  pub ending : (ends ≡ []) ⊎ (ends ≡ 47 ∷ [])
  pub spelled : bytes ≡ begins ++ (host ++ (58 ∷ (decimal addr.port ++ ends)))

-- a packet from somewhere wants its reply there
abbrev pub IsUrl : Addr → List ℕ → Addr → Type 0
IsUrl from bytes addr = ((bytes ≡ []) × (addr ≡ from)) ⊎ IsSpelledOut bytes addr

-- the same, read from left to right

abbrev pub without_scheme : List ℕ → List ℕ
without_scheme bytes = if bytes_eq scheme (take 10 bytes) then drop 10 bytes else bytes

unfoldable pub dotted_in : List ℕ → Option ℕ
dotted_in host = do
  first ← cut_at 46 host
  second ← cut_at 46 first.1
  third ← cut_at 46 second.1
  a ← number_up_to 255 first.0
  b ← number_up_to 255 second.0
  c ← number_up_to 255 third.0
  d ← number_up_to 255 third.1
  Some (ip_of a b c d)

abbrev pub host_in : List ℕ → Option ℕ
host_in host = if bytes_eq host (codes "localhost") then Some loopback else dotted_in host

-- what stands before a `/` at the end
abbrev pub without_slash : List ℕ → Option (List ℕ × List ℕ) → List ℕ
without_slash bytes None = bytes
without_slash bytes (Some (front, [])) = front
without_slash bytes (Some (front, more ∷ rest)) = bytes

abbrev pub port_in : List ℕ → Option ℕ
port_in bytes = number_up_to 65535 (without_slash bytes (cut_at 47 bytes)) >>= λ port.
    if port == 0 then None else Some port

unfoldable pub address_in : List ℕ → Option Addr
address_in bytes = do
  parts ← cut_at 58 (without_scheme bytes)
  ip ← host_in parts.0
  port ← port_in parts.1
  Some (record { ip = ip; port = port })

unfoldable pub url_in : Addr → List ℕ → Option Addr
url_in from [] = Some from
url_in from (byte ∷ bytes) = address_in (byte ∷ bytes)

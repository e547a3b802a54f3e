-- A reply goes to a return address, on a return path. A return path begins with `/` and has 1 to 63
-- bytes.
-- "OSC paths" in docs/formats.md.
use Rattle.std.specs.Prelude.{ℕ, if◌then◌else◌, List, Option, Some, None, IsTrue}
use Rattle.sl_base.specs.declared.addr.Addr.{Addr}
use Rattle.osc_paths.specs.declared.request.ReturnTo.{ReturnTo}
use Rattle.osc_paths.specs.ReturnPaths.{is_return_path}
use Rattle.osc_paths.specs.Texts.{◌>>=◌}
use Rattle.osc_paths.specs.Urls.{IsUrl, url_in}

-- the reply goes to this address, as the url says, and on a return path
pub record IsReturn (from : Addr) (url : List ℕ) (to : ReturnTo) : Type 0 where
  pub addressed : IsUrl from url to.addr
  pub path : IsTrue (is_return_path to.path)

-- the same, read from left to right
abbrev pub return_in : Addr → List ℕ → List ℕ → Option ReturnTo
return_in from url path = url_in from url >>= λ addr. if is_return_path path then
    Some (record { addr = addr; path = path }) else None

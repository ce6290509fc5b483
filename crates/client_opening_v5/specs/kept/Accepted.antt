-- 01, "Opening v5" and "v5 requests", and F-7: what the checks of an accepted opening over v5 give the code that follows them, and the request that credentials make.
use Rattle.std.specs.Prelude.{ℕ, ◌≤◌, ◌≡◌, Bool, true, false, List, [], length}
use Rattle.protocol.specs.declared.AddressKind.{AddressKind}
use Rattle.protocol.specs.declared.AddressKind.TheVariants.{Domain}
use Rattle.protocol.specs.Requests.{authentication_req}

pub record Short5 (auth : Bool) (user password : List ℕ) (kind : AddressKind) (text : List ℕ) : Type 0 where
  pub credentials : auth ≡ true → (length user ≤ 255) × (length password ≤ 255)
  pub name : kind ≡ Domain → length text ≤ 255

abbrev pub credentials_req : Bool → List ℕ → List ℕ → List ℕ
credentials_req true user password = authentication_req user password
credentials_req false user password = []

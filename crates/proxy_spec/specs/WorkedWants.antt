-- What the proxy's end wants, worked: how many bytes, after given bytes.
use Rattle.std.specs.Prelude.{ℕ, ◌≡◌, List, [], ◌∷◌}
use Rattle.proxy_spec.specs.declared.Field.TheVariants.{First}
use Rattle.proxy_spec.specs.End.{Setup}
use Rattle.proxy_spec.specs.Side.{talk_at, server}
use Rattle.proxy_spec.specs.Shortest.{wants_by}
use Rattle.proxy_spec.specs.Worked.{anyone, known, blank, offering, login, connect, request, announced}
use Rattle.talk.specs.Talk.{feed}

abbrev pub wants_after : Setup → List ℕ → ℕ
wants_after c bs = wants_by c (feed (server c) (talk_at c First) bs).session

-- so many bytes, and then so many
abbrev pub Want : Setup → List ℕ → ℕ → Type 0
Want c bs n = wants_after c bs ≡ n

pub record WorkedWants : Type 0 where
  -- a v4 request with no user id; with credentials set a greeting, the credentials and a name of one byte
  pub fresh : Want anyone [] 9
  pub fresh_known : Want known [] 17
  pub fresh_blank : Want blank [] 14
  -- of two methods the last may be the one that is chosen
  pub version5 : Want anyone (0x05 ∷ []) 10
  pub methods : Want anyone (0x05 ∷ 0x02 ∷ []) 10
  pub last_method : Want anyone (0x05 ∷ 0x02 ∷ 0x01 ∷ []) 9
  -- credentials, and those that can only fail: another length, another byte
  pub user : Want known (offering 0x02 []) 14
  pub user_length : Want known (offering 0x02 (0x01 ∷ 0x01 ∷ [])) 12
  pub user_longer : Want known (offering 0x02 (0x01 ∷ 0x02 ∷ [])) 3
  pub user_other : Want known (offering 0x02 (0x01 ∷ 0x01 ∷ 0x76 ∷ [])) 1
  pub password : Want known (offering 0x02 (0x01 ∷ 0x01 ∷ 0x75 ∷ [])) 11
  pub password_begun : Want known (offering 0x02 (0x01 ∷ 0x01 ∷ 0x75 ∷ 0x02 ∷ 0x70 ∷ [])) 9
  pub password_longer : Want known (offering 0x02 (0x01 ∷ 0x01 ∷ 0x75 ∷ 0x03 ∷ [])) 3
  pub password_other : Want known (offering 0x02 (0x01 ∷ 0x01 ∷ 0x75 ∷ 0x02 ∷ 0x71 ∷ [])) 1
  -- a connect by each type; another command fails at a reserved byte or a type, or with the address
  pub head : Want anyone (offering 0x00 []) 8
  pub head_known : Want known (offering 0x02 (login [])) 8
  pub command : Want anyone (offering 0x00 (0x05 ∷ 0x01 ∷ [])) 6
  pub command_other : Want anyone (offering 0x00 (0x05 ∷ 0x02 ∷ [])) 1
  pub type : Want anyone (offering 0x00 (0x05 ∷ 0x01 ∷ 0x00 ∷ [])) 5
  pub type_other : Want anyone (offering 0x00 (0x05 ∷ 0x02 ∷ 0x00 ∷ [])) 1
  pub four : Want anyone (offering 0x00 (0x05 ∷ 0x01 ∷ 0x00 ∷ 0x01 ∷ [])) 6
  pub six : Want anyone (offering 0x00 (0x05 ∷ 0x01 ∷ 0x00 ∷ 0x04 ∷ [])) 18
  pub name : Want anyone (offering 0x00 (0x05 ∷ 0x01 ∷ 0x00 ∷ 0x03 ∷ [])) 4
  pub name_length : Want anyone (offering 0x00 (0x05 ∷ 0x01 ∷ 0x00 ∷ 0x03 ∷ 0x05 ∷ [])) 7
  pub four_other : Want anyone (offering 0x00 (0x05 ∷ 0x02 ∷ 0x00 ∷ 0x01 ∷ [])) 6
  pub name_other : Want anyone (offering 0x00 (0x05 ∷ 0x02 ∷ 0x00 ∷ 0x03 ∷ [])) 1
  -- a v4 request, whether it can lead to the question or not
  pub version4 : Want anyone (0x04 ∷ []) 8
  pub version4_known : Want known (0x04 ∷ []) 8
  pub request_other : Want anyone (0x04 ∷ 0x02 ∷ []) 7
  pub user_id : Want anyone (request 1 []) 1
  pub user_id_known : Want known (request 1 (0x75 ∷ [])) 1
  -- an address that announces a name: a NULL, a name and its NULL; else two of them
  pub announcing : Want anyone (0x04 ∷ 0x01 ∷ 0x00 ∷ 0x50 ∷ 0 ∷ 0 ∷ 0 ∷ 1 ∷ []) 3
  pub announcing_known : Want known (0x04 ∷ 0x01 ∷ 0x00 ∷ 0x50 ∷ 0 ∷ 0 ∷ 0 ∷ 1 ∷ []) 2
  pub name4 : Want anyone (announced []) 2
  pub name4_begun : Want anyone (announced (0x61 ∷ [])) 1
  pub name4_known : Want known (announced []) 1
  -- nothing once it is settled
  pub asked : Want anyone (offering 0x00 (connect 1 [])) 0
  pub failed : Want anyone (0x06 ∷ []) 0

-- 01, "Opening v5" and "Opening v4", and F-7: the parts of preparing's checks that both versions share.
use Rattle.std.specs.Prelude.{ℕ, Bool, not, ◌&&◌, ◌||◌, List, [], length, ltb}
use Rattle.protocol.specs.Answers.{Port, Answer, Accepted}
use Rattle.protocol.specs.declared.SocksError.TheVariants.{MissingHost, HostByte, MissingPort, CredentialTooLong, HostTooLong, IpV6, DnsFailure, AnnouncesName}
use Rattle.protocol.specs.Host.{all_allowed}
use Rattle.protocol.specs.declared.AddressKind.{AddressKind}
use Rattle.protocol.specs.declared.Record.{Record}
use Rattle.protocol.specs.declared.SocksConfig.{SocksConfig}
use Rattle.protocol.specs.Requests.{kind_of}
use Rattle.protocol.specs.Opening.{refuse, is_empty, is_missing, is_name, is_ipv6, is_none, first_record, first_four}

-- refused first, for a host without its brackets: no host, a byte that no host has, no port
abbrev pub check_shared : List ℕ → Port → Answer → Answer
check_shared text port later = refuse (is_empty text) MissingHost (refuse (not (all_allowed text)) HostByte (refuse (is_missing port) MissingPort later))

-- refused of a name: one of more bytes than a request takes, and one to be looked up that no record serves
abbrev pub check_name : Bool → List ℕ → ℕ → Bool → Bool → Answer → Answer
check_name name text most lookup none later = refuse (name && ltb most (length text)) HostTooLong (refuse (lookup && (name && none)) DnsFailure later)

-- the checks of preparing, for a host without its brackets and what it is as address text
abbrev pub check_by5 : SocksConfig → List ℕ → AddressKind → Port → List ℕ → List ℕ → List Record → Answer
check_by5 config text kind port user password records =
    check_shared text port
    (refuse (config.proxy_auth && (ltb 255 (length user) || ltb 255 (length password))) CredentialTooLong
    (check_name (is_name (kind_of kind [])) text 255 config.local_dns (is_none (first_record records)) Accepted))

-- over v4 also by whether what is asked for announces a name
abbrev pub check_by4 : Bool → List ℕ → AddressKind → Port → List Record → Bool → Answer
check_by4 local_dns text kind port records announcing =
    check_shared text port
    (refuse (is_ipv6 (kind_of kind [])) IpV6 (check_name (is_name (kind_of kind [])) text 1014 local_dns (is_none (first_four records)) (refuse announcing AnnouncesName Accepted)))

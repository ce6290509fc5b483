-- F-1: the worked texts are what the definitions write.
use mathlib.Core.Path.{◌≡◌, refl}
use mathlib.Core.List.{map}
use Rattle.address_format.specs.numerals.Digits.{digits_in, digits_of}
use Rattle.address_format.specs.groups.Groups.{behind_mark, split_by, groups_of, zeros_ahead, longest, groups_text}
use Rattle.address_format.specs.endpoint.Text.{host_text, text_of}
use Rattle.address_format.specs.endpoint.Examples.{written, cases}

pub examples : map written cases ≡ cases
unfolding digits_in digits_of behind_mark split_by groups_of zeros_ahead longest groups_text host_text text_of
examples = refl

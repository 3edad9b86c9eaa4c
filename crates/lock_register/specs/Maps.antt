-- From the code's structs to the definitions' types.
use Rattle.lock_rules.specs.Source.{root_under}
use Rattle.lock_words.specs.Maps.{source_is}
use Rattle.lock_register.specs.Read.{Head}
use Rattle.lock_register.specs.declared.read.Lock.{Lock}

abbrev pub head_is : Lock → Head
head_is l = record { owner = l.owner; write = l.write; root = root_under (source_is l.source) l.symbol; count = l.parts }

-- The ghost members of the calls of `answer::reply`.
use Rattle.forms.proofs.answer.reply.Given as goal

abbrev pub ghosts-reply_alone : goal.ghosts-reply_alone
ghosts-reply_alone a = record { name = a.blank.name; parts = a.blank.parts }

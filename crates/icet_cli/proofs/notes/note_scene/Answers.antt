use Rattle.icet_cli.proofs.notes.note_scene.Goals as goal

pub returns-in-TooLong : goal.returns-in-TooLong
returns-in-TooLong g c = rw c.in-TooLong.is c.note.ensures

pub returns-in-BadByte : goal.returns-in-BadByte
returns-in-BadByte g c = rw c.in-BadByte.is c.note_line.ensures

pub returns-in-BadLine : goal.returns-in-BadLine
returns-in-BadLine g c = rw c.in-BadLine.is c.note_line-in-BadLine.ensures

pub returns-in-OutOfPlace : goal.returns-in-OutOfPlace
returns-in-OutOfPlace g c = rw c.in-OutOfPlace.is c.note_line-in-OutOfPlace.ensures

pub returns-in-OutOfRange : goal.returns-in-OutOfRange
returns-in-OutOfRange g c = rw c.in-OutOfRange.is c.note_line-in-OutOfRange.ensures

pub returns-in-NotPremultiplied : goal.returns-in-NotPremultiplied
returns-in-NotPremultiplied g c = rw c.in-NotPremultiplied.is c.note_line-in-NotPremultiplied.ensures

pub returns-in-RankTaken : goal.returns-in-RankTaken
returns-in-RankTaken g c = rw c.in-RankTaken.is c.note_line-in-RankTaken.ensures

pub returns-in-BadOrder : goal.returns-in-BadOrder
returns-in-BadOrder g c = rw c.in-BadOrder.is c.note_line-in-BadOrder.ensures

pub returns-in-TooLarge : goal.returns-in-TooLarge
returns-in-TooLarge g c = rw c.in-TooLarge.is c.note-in-TooLarge.ensures

pub returns-in-NoMemory : goal.returns-in-NoMemory
returns-in-NoMemory g c = rw c.in-NoMemory.is c.note-in-NoMemory.ensures

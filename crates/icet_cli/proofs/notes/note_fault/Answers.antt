use Rattle.icet_cli.proofs.notes.note_fault.Goals as goal

pub returns-in-Words : goal.returns-in-Words
returns-in-Words g c = rw c.in-Words.is c.note.ensures

pub returns-in-Read : goal.returns-in-Read
returns-in-Read g c = rw c.in-Read.is c.note-in-Read.ensures

pub returns-in-Scene : goal.returns-in-Scene
returns-in-Scene g c = rw c.in-Scene.is c.note_scene.ensures

pub returns-in-Write : goal.returns-in-Write
returns-in-Write g c = rw c.in-Write.is c.note-in-Write.ensures

pub returns-in-NoMemory : goal.returns-in-NoMemory
returns-in-NoMemory g c = rw c.in-NoMemory.is c.note-in-NoMemory.ensures
